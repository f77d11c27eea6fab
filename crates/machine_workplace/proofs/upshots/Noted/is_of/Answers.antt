use Rattle.std.proofs.Common.{◌≡◌, ◌∙◌, refl, sym}
use Rattle.std.proofs.lemmas.Bool.{not-false, not-true}
use Rattle.std.proofs.lemmas.Slice.Eq.{slice_eq-Decides}
use Rattle.std.specs.Cmp.{booleans_Decides}
use Rattle.machine_workplace.proofs.upshots.Noted.is_of.Goals as goal

pub returns-then-ne : goal.returns-then-ne
returns-then-ne c =
    let flags = c.as_slice.result.now in
    let others = c.as_slice-2.result.now in
    let differ = not-true _ (sym c.ne.ensures ∙ c.if-ne.true) in (
      λ never. absurd cc,
      λ is.
          let same : flags ≡ others = c.as_slice.ensures ∙ is.confirmed ∙ sym c.as_slice-2.ensures in
          let equal = (slice_eq-Decides booleans_Decides flags others _ refl).1 same in
          absurd cc,
    )

pub returns : goal.returns
returns c =
    let flags = c.as_slice.result.now in
    let others = c.as_slice-2.result.now in
    let same : flags ≡ others =
    (slice_eq-Decides booleans_Decides flags others _ refl).0 (not-false _ (sym c.ne.ensures ∙ c.if-ne.false)) in (
      λ equal. record {
        edition = c.if-self-session.false;
        typed = sym c.as_slice-3.ensures ∙ c.are_equal.ensures.0 equal ∙ c.as_slice-4.ensures;
        confirmed = sym c.as_slice.ensures ∙ same ∙ c.as_slice-2.ensures;
      },
      λ is. c.are_equal.ensures.1 (c.as_slice-3.ensures ∙ is.typed ∙ sym c.as_slice-4.ensures),
    )

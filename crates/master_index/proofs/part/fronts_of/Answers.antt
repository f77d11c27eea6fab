use Rattle.std.proofs.Common.{◌≤◌, ◌++◌, ◌∷◌, ℕ, List, [], get_or, inl, inr, length, take, refl, arith}
use Rattle.std.proofs.Math.Nat.{eq-or-lt_of_le}
use Rattle.std.proofs.lemmas.List.{get_or_append_left, get_or_push, length_push, take_more}
use Rattle.fix_model.specs.declared.book.Hit.{Hit}
use Rattle.fix_model.specs.Comparison.{row_key}
use Rattle.master_index.proofs.Grouping.{nothing}
use Rattle.master_index.specs.Fronts.{AreFronts, IsKeyFront}
use Rattle.master_index.proofs.part.fronts_of.Goals as goal

-- one entry more has its front
AreFronts-push : (key : ℕ → List (List ℕ)) (entries : List Hit) (fronts : List ℕ) (entry : Hit) (number : ℕ)
    → AreFronts key entries fronts → IsKeyFront (key entry.first) number
    → AreFronts key (entries ++ entry ∷ []) (fronts ++ number ∷ [])
AreFronts-push key entries fronts entry number before is = record {
  whole = omega (arith, length_push entries entry, length_push fronts number, before.whole);
  each = λ place d within.
      let up_to : place ≤ length entries = omega (arith, length_push entries entry) in
      elim (eq-or-lt_of_le up_to) [
        | inl here ↦ rw (
          here,
          get_or_push entries entry d (length entries) refl,
          get_or_push fronts number 0 (length entries) before.whole,
        ) is
        | inr earlier ↦ rw (
          get_or_append_left entries (entry ∷ []) d place earlier,
          get_or_append_left fronts (number ∷ []) 0 place (omega (arith, before.whole)),
        ) (before.each place d earlier)
      ];
}

pub entries-preserved : goal.entries-preserved
entries-preserved c =
    let entries = c.args.entries.now in
    let place = c.entries.entry-index in
    rw (c.in_ok-push.ensures.pushed, take_more entries place nothing c.entries-test.true)
    (AreFronts-push (row_key c.args.kit.now c.args.rule.now) (take place entries) c.entries.fronts
    (get_or entries place nothing) c.row_front.result c.entries.invariant c.row_front.ensures)

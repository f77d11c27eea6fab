use Rattle.std.proofs.Common.{◌≡◌, ◌∙◌, ap, bytes_eq, sym, true}
use Rattle.std.proofs.lemmas.Slice.Eq.{bytes_eq-Decides}
use Rattle.desk_base.specs.Places.{has_text}
use Rattle.desk_base.proofs.Distinct.{repeated, DifferBefore-next, following, Any-list_any, list_any-Any}
use Rattle.desk_base.proofs.places.are_distinct.Goals as goal

pub returns-then-has_text : goal.returns-then-has_text
returns-then-has_text c =
    let text = c.index-texts-place.result in
    let rest = following c.args.texts.now c.texts.place in
    let found : has_text rest text ≡ true = ap (has_text rest) (sym c.as_str.ensures.text)
    ∙ (sym c.has_text.ensures ∙ c.if-has_text.true) in (
      λ never. absurd cc,
      λ distinct. absurd (repeated (λ one. one) c.args.texts.now c.texts.place text c.texts-test.true
          c.index-texts-place.is (Any-list_any bytes_eq bytes_eq-Decides rest text found) distinct),
    )

pub texts-preserved : goal.texts-preserved
texts-preserved c =
    let text = c.index-texts-place.result in
    let rest = following c.args.texts.now c.texts.place in
    DifferBefore-next (λ one. one) c.args.texts.now c.texts.place text c.texts-test.true c.index-texts-place.is
    c.texts.invariant (λ later.
    let found : has_text rest text ≡ true = list_any-Any bytes_eq bytes_eq-Decides rest text later in
    let told = ap (has_text rest) c.as_str.ensures.text ∙ found in
    let missed = sym c.has_text.ensures ∙ c.if-has_text.false in cc)

use Rattle.std.proofs.Common.{◌≡◌, ◌∙◌, ◌∷◌, ◌++◌, [], ap, arith, length, map, sym}
use Rattle.std.specs.List.{range_with_len}
use Rattle.std.proofs.lemmas.List.FromFn.{length-map-range_with_len}
use Rattle.fix_model.proofs.Ranges.{map-range-suc}
use Rattle.fix_model.specs.States.{value_at}
use Rattle.machine_clerk.proofs.clerk.commit.texts_of.Goals as goal

pub attributes-preserved : goal.attributes-preserved
attributes-preserved c =
    let value : c.in_ok-value_text.field-0 ≡ value_at c.args.book.now c.args.state.now c.attributes.attribute =
    c.in_ok-value_text.ensures in
    let so_far = map (value_at c.args.book.now c.args.state.now) (range_with_len 0 c.attributes.attribute) in
    c.in_ok-push.ensures.pushed ∙ ap (λ texts. texts ++ c.in_ok-value_text.field-0 ∷ []) c.attributes.invariant
    ∙ ap (λ text. so_far ++ text ∷ []) value
    ∙ sym (map-range-suc (value_at c.args.book.now c.args.state.now) c.attributes.attribute)

pub returns-clause-whole : goal.returns-clause-whole
returns-clause-whole c = omega (
  arith,
  ap length c.attributes.invariant,
  length-map-range_with_len (value_at c.args.book.now c.args.state.now) 0 c.attributes.attribute,
  c.attributes-test.false,
  c.attributes.auto.attribute-end,
  c.width-width.ensures.width,
)

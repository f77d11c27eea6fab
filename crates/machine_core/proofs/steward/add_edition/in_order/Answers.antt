use Rattle.std.proofs.Common.{◌∙◌, ◌++◌, ◌∷◌, [], ap, sym}
use Rattle.machine_core.proofs.InOrder.{in_order-with, in_order-without}
use Rattle.machine_core.proofs.steward.add_edition.in_order.Goals as goal
use Rattle.machine_core.proofs.steward.add_edition.in_order.Goals.{then-is_among+in_ok-push, else-is_among}

pub attributes-preserved : goal.attributes-preserved
attributes-preserved c = elim c.if-is_among.branch [
  | then-is_among+in_ok-push w ↦ w.made-is ∙ w.in_ok-push.ensures.pushed
      ∙ ap (λ made. made ++ c.attributes.attribute ∷ []) c.attributes.invariant
      ∙ sym (in_order-with c.args.attributes.now c.attributes.attribute
      (sym c.is_among.ensures ∙ w.if-is_among.true))
  | else-is_among w ↦ w.made-is ∙ c.attributes.invariant
      ∙ sym (in_order-without c.args.attributes.now c.attributes.attribute
      (sym c.is_among.ensures ∙ w.if-is_among.false))
]

use Rattle.std.proofs.Common.{◌∙◌, ap, sym}
use Rattle.std.specs.Ordering.{is_eq}
use Rattle.std.proofs.lemmas.Cmp.{tied_itself}
use Rattle.fix_model.specs.Comparison.{key_order, row_key}
use Rattle.master_index.proofs.Grouping.{key_order-exact, key_order-total}
use Rattle.desk_base.proofs.Bools.{is_eq-true}
use Rattle.master_index.proofs.sorting.has_same_key.Goals as goal

pub returns : goal.returns
returns c =
    let key = row_key c.args.kit.now c.args.rule.now in (
      λ told. key_order-exact (key c.args.row) (key c.args.other)
          (sym c.key_order.ensures ∙ is_eq-true c.key_order.result (sym c.is_eq.ensures ∙ told)),
      λ same. c.is_eq.ensures ∙ ap is_eq (c.key_order.ensures ∙ ap (λ other. key_order (key c.args.row) other)
          (sym same) ∙ tied_itself key_order-total (key c.args.row)),
    )

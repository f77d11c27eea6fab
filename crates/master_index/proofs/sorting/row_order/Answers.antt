use Rattle.std.proofs.Common.{◌∙◌, get_or, sym}
use Rattle.std.specs.Ordering.{nat_cmp}
use Rattle.fix_model.specs.Comparison.{row_key}
use Rattle.master_index.proofs.Fronts.{ordering_then-fronts}
use Rattle.master_index.proofs.sorting.row_order.Goals as goal

pub returns-then-is_ne : goal.returns-then-is_ne
returns-then-is_ne c =
    let key = row_key c.args.kit.now c.args.rule.now in
    let fronts = c.args.fronts.now in
    ordering_then-fronts (key c.args.row) (key c.args.other) (get_or fronts c.args.row 0) (get_or fronts c.args.other 0)
    c.cmp-order.result (nat_cmp c.args.row c.args.other) (c.requires.fronts c.args.row) (c.requires.fronts c.args.other)
    (rw (c.front_at.ensures, c.front_at-2.ensures) at c.cmp-order.ensures) (sym c.is_ne.ensures ∙ c.if-is_ne.true)

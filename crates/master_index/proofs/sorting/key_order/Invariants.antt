use Rattle.std.proofs.Common.{◌≡◌, drop}
use Rattle.std.specs.Cmp.Lexicographic.{slice_cmp}
use Rattle.master_index.proofs.RowOrder.{at_rows}
use Rattle.master_index.proofs.sorting.key_order.Given as goal

abbrev pub invariant-keys : goal.invariant-keys
invariant-keys l =
    let order = at_rows l.kit l.rule l.row l.other in
    slice_cmp order l.rule.keys l.rule.keys ≡ slice_cmp order (drop l.key-index l.rule.keys)
    (drop l.key-index l.rule.keys)

use Rattle.master_index.proofs.RowOrder.{AreUsableBefore}
use Rattle.master_index.proofs.sorting.usable_rows.Given as goal

abbrev pub invariant-rows : goal.invariant-rows
invariant-rows l = AreUsableBefore l.kit l.rule l.row l.rows.items

use Rattle.std.proofs.Common.{arith, length-take, take}
use Rattle.desk_totals.proofs.MasterCells.{cells_in-few, master_cells-le}
use Rattle.desk_totals.proofs.cells.master_cells.Goals as goal

pub overflow_add-cells : goal.overflow_add-cells
overflow_add-cells c =
    omega (
      arith,
      c.masters.invariant,
      master_cells-le (take c.masters.row-index c.args.masters.now),
      length-take c.masters.row-index c.args.masters.now,
      cells_in-few c.row-item.result,
      c.in_ok-cells.ensures,
    )

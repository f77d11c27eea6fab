use Rattle.std.proofs.Common.{arith, rules}
use Rattle.desk_totals.proofs.MasterCells.{cells_in-fault, cells_in-few, cells_in-outline}
use Rattle.desk_totals.proofs.cells.cells_in.Goals as goal

pub overflow_mul-result : goal.overflow_mul-result
overflow_mul-result c =
    let read = rw c.as_slice.ensures at c.in-Ok.ensures.outline in
    rw (c.len.ensures, c.from.ensures) (omega (
      arith,
      cells_in-outline c.args.row.now c.in-Ok.outline read,
      cells_in-few c.args.row.now,
    ))

pub returns-in-Ok : goal.returns-in-Ok
returns-in-Ok c =
    let read = rw c.as_slice.ensures at c.in-Ok.ensures.outline in
    rw (c.len.ensures, c.from.ensures) (cells_in-outline c.args.row.now c.in-Ok.outline read)

pub returns-in-Err : goal.returns-in-Err
returns-in-Err c =
    cells_in-fault c.args.row.now c.in-Err.field-0 (rw c.as_slice.ensures at (c.in-Err.ensures.fault (search rules)))

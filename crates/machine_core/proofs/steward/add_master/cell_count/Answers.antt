use Rattle.std.proofs.Common.{arith}
use Rattle.machine_core.proofs.SheetCells.{cells-fault, cells-outline, outline-few}
use Rattle.machine_core.proofs.steward.add_master.cell_count.Goals as goal

pub overflow_mul-result : goal.overflow_mul-result
overflow_mul-result c =
    rw (c.len.ensures, c.from.ensures) (omega (
      arith,
      outline-few c.args.sheet.now c.in-Ok.outline c.in-Ok.ensures.outline,
    ))

pub returns-in-Ok-clause-finds : goal.returns-in-Ok-clause-finds
returns-in-Ok-clause-finds c =
    rw (c.len.ensures, c.from.ensures) (cells-outline c.args.sheet.now c.in-Ok.outline c.in-Ok.ensures.outline)

pub returns-in-Ok-clause-few : goal.returns-in-Ok-clause-few
returns-in-Ok-clause-few c =
    rw (c.len.ensures, c.from.ensures) (omega (
      arith,
      outline-few c.args.sheet.now c.in-Ok.outline c.in-Ok.ensures.outline,
    ))

pub returns-in-Err-clause-finds : goal.returns-in-Err-clause-finds
returns-in-Err-clause-finds c =
    cells-fault c.args.sheet.now c.in-Err.fault c.sheet_stop.result c.sheet_stop.ensures.refused c.in-Err.ensures.fault

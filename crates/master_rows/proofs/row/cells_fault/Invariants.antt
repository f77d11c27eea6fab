use Rattle.std.proofs.Common.{◌≡◌, ◌+◌, drop}
use Rattle.csv.specs.Records.{fields_of}
use Rattle.master_rows.specs.Row.{cells_fault}
use Rattle.master_rows.proofs.row.cells_fault.Given as goal

-- the first fault is that of the cells that are left
abbrev pub invariant-places : goal.invariant-places
invariant-places l = cells_fault l.row 1 (fields_of l.source)
    ≡ cells_fault l.row (l.place + 1) (drop l.place (fields_of l.source))

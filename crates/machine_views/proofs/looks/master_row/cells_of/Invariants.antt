use Rattle.std.proofs.Common.{◌≡◌, [], take}
use Rattle.std.specs.Prelude.{slice_index_or, zip}
use Rattle.machine_views.proofs.looks.master_row.cells_of.Given as goal

-- the columns so far have their cells
abbrev pub invariant-columns : goal.invariant-columns
invariant-columns l =
    l.cells ≡ take l.column (zip l.sheet.columns (slice_index_or l.sheet.grid.rows l.row []))

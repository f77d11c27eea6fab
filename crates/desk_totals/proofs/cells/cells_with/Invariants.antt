use Rattle.std.proofs.Common.{◌≡◌, ◌+◌, take}
use Rattle.desk_totals.specs.Totals.{new_cells}
use Rattle.desk_totals.proofs.cells.cells_with.Given as goal

-- the cells with those that the changes so far bring
abbrev pub invariant-changes : goal.invariant-changes
invariant-changes l = l.after ≡ l.cells + new_cells (take l.change-index l.changes)

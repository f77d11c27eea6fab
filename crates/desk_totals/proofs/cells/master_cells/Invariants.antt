use Rattle.std.proofs.Common.{◌≡◌, take}
use Rattle.desk_valid.specs.Tallies.{master_cells}
use Rattle.desk_totals.proofs.cells.master_cells.Given as goal

-- the cells so far
abbrev pub invariant-masters : goal.invariant-masters
invariant-masters l = l.cells ≡ master_cells (take l.row-index l.masters)

use Rattle.std.proofs.Common.{◌≡◌, map}
use Rattle.std.specs.List.{range_with_len}
use Rattle.machine_core.specs.Shelves.{bound_on}
use Rattle.machine_core.specs.Views.{view_cell}
use Rattle.machine_views.proofs.views.view_cells.Given as goal

-- the attributes so far are shown
abbrev pub invariant-attributes : goal.invariant-attributes
invariant-attributes l = l.cells ≡ map (view_cell (bound_on l.shelved) l.state) (range_with_len 0 l.attribute)

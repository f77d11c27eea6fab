use Rattle.std.proofs.Common.{◌≡◌, ◌<◌, All, length, drop}
use Rattle.machine_core.specs.Checked.{◌>>=◌, each, run}
use Rattle.machine_core.specs.Tests.{typed_cell}
use Rattle.machine_core.proofs.Joined.{joined}
use Rattle.machine_core.proofs.attributes.typed_cells.Given as goal

-- what was found and what is found of the cells left are what is found of all
abbrev pub invariant-cells : goal.invariant-cells
invariant-cells l = record {
  found : run (each (typed_cell l.attributes) l.cells)
      ≡ run (each (typed_cell l.attributes) (drop l.cell-index l.cells) >>= joined l.typed);
  within : All (λ cell. cell.0 < length l.attributes) l.typed;
}

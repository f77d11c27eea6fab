use Rattle.std.proofs.Common.{◌≡◌, [], map, slice_index_or, take}
use Rattle.std.specs.Prelude.{zip}
use Rattle.machine_clerk.proofs.clerk.batch.cells_of.Given as goal

-- the texts so far, each with its attribute
abbrev pub invariant-columns : goal.invariant-columns
invariant-columns l =
    l.cells ≡ map (λ cell. (cell.0.attribute, cell.1))
    (take l.place (zip l.columns (slice_index_or l.grid.rows l.row [])))

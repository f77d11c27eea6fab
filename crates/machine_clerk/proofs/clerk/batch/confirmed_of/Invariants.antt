use Rattle.std.proofs.Common.{◌≡◌, [], filter, map, slice_index_or, take}
use Rattle.std.specs.Prelude.{zip}
use Rattle.machine_core.specs.Clerk.Batch.{is_confirmed}
use Rattle.machine_clerk.proofs.clerk.batch.confirmed_of.Given as goal

-- the attributes so far that are confirmed
abbrev pub invariant-columns : goal.invariant-columns
invariant-columns l = l.confirmed ≡ map (λ cell. cell.0.attribute)
    (filter is_confirmed (take l.place (zip l.columns (slice_index_or l.grid.rows l.row []))))

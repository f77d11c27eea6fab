use Rattle.std.proofs.Common.{◌≡◌, map, take}
use Rattle.machine_core.specs.Clerk.Batch.{placed, row_session}
use Rattle.machine_clerk.proofs.clerk.batch.row_sessions.Given as goal

-- the sessions of the rows so far
abbrev pub invariant-rows : goal.invariant-rows
invariant-rows l = l.sessions ≡ placed l.first
    (map (row_session l.heading.edition l.heading.width l.batch l.heading.columns.now) (take l.row l.grid.rows))

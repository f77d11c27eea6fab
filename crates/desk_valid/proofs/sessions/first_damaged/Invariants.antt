use Rattle.desk_valid.specs.ReadTables.{rows_in}
use Rattle.desk_valid.specs.Valid.{IsOwnSession}
use Rattle.desk_valid.proofs.Own.{AreCounted}
use Rattle.desk_valid.proofs.sessions.first_damaged.Given as goal

-- the rows of the clerks so far are counted, and each is what it has to be
abbrev pub invariant-clerks : goal.invariant-clerks
invariant-clerks l = AreCounted (rows_in l.read).sessions (IsOwnSession (rows_in l.read)) l.before l.clerk

use Rattle.desk_words.specs.Tables.{list_at}
use Rattle.desk_valid.specs.FirstDamaged.{EachBefore}
use Rattle.desk_valid.specs.ReadTables.{rows_in}
use Rattle.desk_valid.specs.Valid.{IsOwnSession}
use Rattle.desk_valid.proofs.sessions.first_of_clerk.Given as goal

-- each row so far is what it has to be
abbrev pub invariant-rows : goal.invariant-rows
invariant-rows l =
    EachBefore (list_at (rows_in l.read).sessions l.clerk) (IsOwnSession (rows_in l.read) l.clerk) l.place

use Rattle.desk_words.specs.Tables.{list_at, rows_of}
use Rattle.desk_valid.specs.FirstDamaged.{EachBefore}
use Rattle.desk_valid.specs.Valid.{IsOwnBatch}
use Rattle.desk_valid.proofs.batches.first_of_clerk.Given as goal

-- each row so far is what it has to be
abbrev pub invariant-rows : goal.invariant-rows
invariant-rows l =
    EachBefore (list_at (rows_of l.tables).batches l.clerk) (IsOwnBatch (rows_of l.tables) l.clerk) l.place

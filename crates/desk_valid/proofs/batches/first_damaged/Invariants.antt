use Rattle.desk_words.specs.Tables.{rows_of}
use Rattle.desk_valid.specs.Valid.{IsOwnBatch}
use Rattle.desk_valid.proofs.Own.{AreCounted}
use Rattle.desk_valid.proofs.batches.first_damaged.Given as goal

-- the rows of the clerks so far are counted, and each is what it has to be
abbrev pub invariant-clerks : goal.invariant-clerks
invariant-clerks l = AreCounted (rows_of l.tables).batches (IsOwnBatch (rows_of l.tables)) l.before l.clerk

use Rattle.desk_words.specs.Tables.{rows_of}
use Rattle.desk_valid.specs.Valid.{IsOwnRecord}
use Rattle.desk_valid.proofs.Own.{AreCounted}
use Rattle.desk_valid.proofs.records.first_damaged.Given as goal

-- the rows of the clerks so far are counted, and each is what it has to be
abbrev pub invariant-clerks : goal.invariant-clerks
invariant-clerks l = AreCounted (rows_of l.tables).records (IsOwnRecord (rows_of l.tables)) l.before l.clerk

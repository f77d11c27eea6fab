use Rattle.std.proofs.Common.{length, take}
use Rattle.desk_words.specs.Tables.{list_at, rows_of}
use Rattle.desk_valid.specs.FirstDamaged.{EachBefore}
use Rattle.desk_valid.specs.Valid.{IsOwnRecord}
use Rattle.desk_valid.specs.Seen.{AreSeen}
use Rattle.desk_valid.proofs.records.first_of_clerk.Given as goal

-- each row so far is what it has to be, and the flags tell which sessions they name
abbrev pub invariant-rows : goal.invariant-rows
invariant-rows l = record {
  good : EachBefore (list_at (rows_of l.tables).records l.clerk) (IsOwnRecord (rows_of l.tables) l.clerk) l.place;
  seen : AreSeen l.seen (length (list_at (rows_of l.tables).sessions l.clerk))
      (take l.place (list_at (rows_of l.tables).records l.clerk));
}

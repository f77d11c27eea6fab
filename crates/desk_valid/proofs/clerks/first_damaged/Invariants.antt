use Rattle.desk_words.specs.Tables.{rows_of}
use Rattle.desk_valid.specs.FirstDamaged.{EachBefore}
use Rattle.desk_valid.specs.Rows.Clerk.{IsClerkRow}
use Rattle.desk_valid.proofs.clerks.first_damaged.Given as goal

-- each clerk so far is what it has to be
abbrev pub invariant-rows : goal.invariant-rows
invariant-rows l = EachBefore l.tables.clerks.items (IsClerkRow (rows_of l.tables)) l.place

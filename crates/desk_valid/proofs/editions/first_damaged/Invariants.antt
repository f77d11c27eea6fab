use Rattle.desk_valid.specs.FirstDamaged.{EachBefore}
use Rattle.desk_valid.specs.ReadTables.{published_in}
use Rattle.desk_valid.specs.Rows.Edition.{IsEditionRow}
use Rattle.desk_valid.proofs.editions.first_damaged.Given as goal

-- each row so far is what it has to be
abbrev pub invariant-rows : goal.invariant-rows
invariant-rows l = EachBefore (published_in l.read).editions (IsEditionRow (published_in l.read)) l.place

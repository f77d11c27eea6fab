use Rattle.desk_valid.specs.FirstDamaged.{EachBefore}
use Rattle.desk_valid.specs.ReadTables.{published_in}
use Rattle.desk_valid.specs.Rows.Region.{IsRegionRow}
use Rattle.desk_valid.proofs.regions.first_damaged.Given as goal

-- each row so far is what it has to be
abbrev pub invariant-rows : goal.invariant-rows
invariant-rows l = EachBefore (published_in l.read).regions (IsRegionRow (published_in l.read)) l.place

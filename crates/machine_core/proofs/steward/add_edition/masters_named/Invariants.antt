use Rattle.std.proofs.Common.{◌≡◌, [], length, drop}
use Rattle.desk_words.specs.Tables.{published_of, rows_of}
use Rattle.machine_core.specs.Checked.{each_following, run}
use Rattle.machine_core.specs.Steward.AddEdition.{AreOthers, another_master}
use Rattle.machine_core.proofs.steward.add_edition.masters_named.Given as goal

-- what is found of the masters left after those found is what is found of all, each of another name
abbrev pub invariant-masters : goal.invariant-masters
invariant-masters l = record {
  found : run (each_following [] (another_master l.tables.masters.items) l.masters)
      ≡ run (each_following l.places (another_master l.tables.masters.items) (drop l.master-index l.masters));
  others : AreOthers (published_of (rows_of l.tables)) l.places;
  each : length l.places ≡ l.master-index;
}

use Rattle.std.proofs.Common.{◌≡◌, [], length, drop}
use Rattle.std.specs.Prelude.{zip}
use Rattle.machine_core.specs.Checked.{each_following, run}
use Rattle.machine_core.specs.Deriving.{another_pair}
use Rattle.machine_core.proofs.derived.places_of.Given as goal

-- what is found of the pairs left after those found is what is found of all
abbrev pub invariant-pairs : goal.invariant-pairs
invariant-pairs l = record {
  found : run (each_following [] (another_pair l.words l.names) l.pairs)
      ≡ run (each_following (zip l.attributes l.columns) (another_pair l.words l.names) (drop l.pair-index l.pairs));
  each : length l.columns ≡ length l.attributes;
}

use Rattle.std.proofs.Common.{◌≡◌, ◌<◌, All, [], length, drop}
use Rattle.machine_core.specs.Checked.{each_following, run}
use Rattle.machine_core.specs.Clerk.Batch.{another_column}
use Rattle.machine_clerk.proofs.clerk.batch.columns_of.Given as goal

-- what is found of the columns left after those found is what is found of all
abbrev pub invariant-words : goal.invariant-words
invariant-words l = record {
  found : run (each_following [] (another_column l.attributes) l.words)
      ≡ run (each_following l.columns (another_column l.attributes) (drop l.word-index l.words));
  within : All (λ column. column.attribute < length l.attributes) l.columns;
  each : length l.columns ≡ l.word-index;
}

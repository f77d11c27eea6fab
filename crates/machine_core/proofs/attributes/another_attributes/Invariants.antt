use Rattle.std.proofs.Common.{◌≡◌, ◌<◌, All, [], length, drop}
use Rattle.machine_core.specs.Checked.{each_following, run}
use Rattle.machine_core.specs.Tests.{another_attribute}
use Rattle.machine_core.proofs.attributes.another_attributes.Given as goal

-- what is found of the words left after those found is what is found of all
abbrev pub invariant-words : goal.invariant-words
invariant-words l = record {
  found : run (each_following [] (another_attribute l.attributes) l.words)
      ≡ run (each_following l.places (another_attribute l.attributes) (drop l.word-index l.words));
  within : All (λ place. place < length l.attributes) l.places;
}

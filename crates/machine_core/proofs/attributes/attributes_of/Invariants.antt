use Rattle.std.proofs.Common.{◌≡◌, drop}
use Rattle.machine_core.specs.Checked.{◌>>=◌, each, run}
use Rattle.machine_core.specs.Tests.{attribute_of}
use Rattle.machine_core.proofs.Joined.{joined}
use Rattle.machine_core.proofs.attributes.attributes_of.Given as goal

-- what was found and what is found of the words left are what is found of all
abbrev pub invariant-words : goal.invariant-words
invariant-words l =
    run (each (attribute_of l.attributes) l.words)
    ≡ run (each (attribute_of l.attributes) (drop l.word-index l.words) >>= joined l.places)

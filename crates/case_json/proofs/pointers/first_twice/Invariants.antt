use Rattle.std.proofs.Common.{◌≡◌, [], drop, take}
use Rattle.case_json.specs.Pointers.{twice_after}
use Rattle.case_json.proofs.pointers.first_twice.Given as goal

abbrev pub invariant-words : goal.invariant-words
invariant-words l = twice_after [] l.words ≡ twice_after (take l.place l.words) (drop l.place l.words)

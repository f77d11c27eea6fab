use Rattle.std.proofs.Common.{◌≡◌, ◌++◌, map, take}
use Rattle.rule_text.specs.Printing.{listed}
use Rattle.desk_made.specs.Schema.{quoted}
use Rattle.desk_made.proofs.schema.push_listed.Given as goal

abbrev pub invariant-words : goal.invariant-words
invariant-words l = l.text.items ≡ l.initial.text.items ++ listed (map quoted (take l.place l.words))

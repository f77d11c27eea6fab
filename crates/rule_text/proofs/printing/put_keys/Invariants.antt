use Rattle.std.proofs.Common.{◌≡◌, ◌++◌, map, take}
use Rattle.rule_text.specs.Printing.{pair_text, listed}
use Rattle.rule_text.proofs.printing.put_keys.Given as goal

abbrev pub invariant-keys : goal.invariant-keys
invariant-keys l = l.out.items ≡ l.initial.out.items ++ listed (map (pair_text l.schema) (take l.place l.keys))

use Rattle.std.proofs.Common.{◌≡◌, ◌++◌, map, take}
use Rattle.rule_text.specs.Printing.{cond_text, listed}
use Rattle.rule_text.proofs.printing.put_asked.Given as goal

abbrev pub invariant-conds : goal.invariant-conds
invariant-conds l = l.out.items ≡ l.initial.out.items ++ listed (map (cond_text l.schema) (take l.place l.conds))

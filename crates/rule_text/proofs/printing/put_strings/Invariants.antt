use Rattle.std.proofs.Common.{◌≡◌, ◌++◌, map, take}
use Rattle.rule_text.specs.Printing.{string_text, listed}
use Rattle.rule_text.proofs.printing.put_strings.Given as goal

abbrev pub invariant-texts : goal.invariant-texts
invariant-texts l = l.out.items ≡ l.initial.out.items ++ listed (map string_text (take l.place l.texts))

use Rattle.std.proofs.Common.{◌≡◌, ◌++◌, ◌∷◌, take}
use Rattle.rule_text.specs.Printing.{doubled}
use Rattle.rule_text.proofs.printing.put_string.Given as goal

abbrev pub invariant-bytes : goal.invariant-bytes
invariant-bytes l = l.out.items ≡ l.fn.out.items ++ 34 ∷ doubled (take l.byte-index l.byte-items)

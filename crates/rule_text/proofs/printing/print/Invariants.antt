use Rattle.std.proofs.Common.{◌≡◌, take}
use Rattle.std.specs.List.{flat_map}
use Rattle.rule_text.specs.Printing.{line_text}
use Rattle.rule_text.proofs.printing.print.Given as goal

abbrev pub invariant-lines : goal.invariant-lines
invariant-lines l = l.out.items ≡ flat_map (line_text l.schema) (take l.line-index l.line-items)

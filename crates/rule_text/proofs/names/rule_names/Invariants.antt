use Rattle.std.proofs.Common.{◌≡◌, map, take}
use Rattle.rule_text.proofs.names.rule_names.Given as goal

abbrev pub invariant-lines : goal.invariant-lines
invariant-lines l = l.names ≡ map (λ line. line.name) (take l.line-index l.lines)

use Rattle.std.proofs.Common.{◌≡◌, ◌+◌, drop, map, take}
use Rattle.rule_text.specs.Binding.{first_fault, rule_of}
use Rattle.rule_text.proofs.binding.rules_of.Given as goal

abbrev pub invariant-lines : goal.invariant-lines
invariant-lines l = record {
  found : first_fault l.masters 1 l.lines ≡ first_fault l.masters (l.place + 1) (drop l.place l.lines);
  so_far : l.rules ≡ map (rule_of l.masters) (take l.place l.lines);
}

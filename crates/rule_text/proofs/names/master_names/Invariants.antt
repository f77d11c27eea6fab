use Rattle.std.proofs.Common.{◌≡◌, map, take}
use Rattle.rule_text.proofs.names.master_names.Given as goal

abbrev pub invariant-masters : goal.invariant-masters
invariant-masters l = l.names ≡ map (λ master. master.0) (take l.master-index l.masters)

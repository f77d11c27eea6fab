use Rattle.std.proofs.Common.{◌≡◌, map, take}
use Rattle.rule_text.proofs.binding.grids_of.Given as goal

abbrev pub invariant-masters : goal.invariant-masters
invariant-masters l = l.grids ≡ map (λ master. master.1.grid) (take l.master-index l.masters)

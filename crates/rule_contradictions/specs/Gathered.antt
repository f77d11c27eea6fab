-- The contradictions of a rule before they are sorted.
use Rattle.std.specs.Prelude.{◌≢◌, ◌↔◌, List, AllPairs, Contains}
use Rattle.fix_model.specs.declared.kit.Kit.{Kit}
use Rattle.fix_model.specs.declared.rule.Rule.{Rule}
use Rattle.rule_contradictions.specs.declared.contradiction.Contradiction.{Contradiction}
use Rattle.rule_contradictions.specs.Contradictions.{IsContradiction}

-- exactly the contradictions of a rule, each once, in any order
pub record AreGathered (kit : Kit) (rule : Rule) (found : List Contradiction) : Type 0 where
  pub apart : AllPairs (λ one other. one.row ≢ other.row) found
  pub each : (it : Contradiction) → Contains found it ↔ IsContradiction kit rule it

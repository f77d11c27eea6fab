-- What stands in the way of each attribute that is not covered.
use Rattle.std.specs.Prelude.{◌≡◌, ◌==◌, ℕ, List, All, filter, length, map}
use Rattle.std.specs.List.{range_with_len}
use Rattle.fix_model.specs.declared.kit.Kit.{Kit}
use Rattle.fix_model.specs.declared.state.State.{State}
use Rattle.fix_model.specs.Rules.{rule_at}
use Rattle.fix_blockers.specs.declared.blocked_attribute.BlockedAttribute.{BlockedAttribute}
use Rattle.fix_blockers.specs.declared.blocked_attribute.BlockedRule.{BlockedRule}
use Rattle.fix_blockers.specs.Blockers.{IsBlocker, is_uncovered}

-- the attributes that are not covered, in their order
abbrev pub uncovered : Kit → State → List ℕ
uncovered kit state = filter (is_uncovered state) (range_with_len 0 kit.width)

-- the rules whose head the attribute is, in their order
abbrev pub rules_for : Kit → ℕ → List ℕ
rules_for kit attribute = filter (λ rule. (rule_at kit rule).head == attribute) (range_with_len 0 (length kit.rules))

-- each rule whose head the attribute is, with what stands in its way
pub record AreBlockedRules (kit : Kit) (state : State) (attribute : ℕ) (rules : List BlockedRule) : Type 0 where
  pub which : map (λ one. one.rule) rules ≡ rules_for kit attribute
  pub blockers : All (λ one. IsBlocker kit state (rule_at kit one.rule) one.blocker) rules

-- each attribute that is not covered, with its rules
pub record AreBlocked (kit : Kit) (state : State) (blocked : List BlockedAttribute) : Type 0 where
  pub which : map (λ one. one.attribute) blocked ≡ uncovered kit state
  pub rules : All (λ one. AreBlockedRules kit state one.attribute one.rules) blocked

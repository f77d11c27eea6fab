-- Which rules wait for an attribute: those that name it among their keys or conditions.
use Rattle.std.specs.Prelude.{◌≢◌, ℕ, ◌<◌, All}
use Rattle.fix_model.specs.declared.kit.Kit.{Kit}
use Rattle.fix_model.specs.declared.rule.Rule.{Rule}
use Rattle.fix_model.specs.Rules.{rule_at}

-- neither the keys nor the conditions of the rule name the attribute
pub record IsApart (attribute : ℕ) (rule : Rule) : Type 0 where
  pub keys : All (λ key. key.0 ≢ attribute) rule.keys
  pub conds : All (λ cond. cond.0 ≢ attribute) rule.conds

-- no rule before this one waits for the attribute
pub record NoneWaitsBefore (kit : Kit) (attribute place : ℕ) : Type 0 where
  pub apart : (earlier : ℕ) → earlier < place → IsApart attribute (rule_at kit earlier)

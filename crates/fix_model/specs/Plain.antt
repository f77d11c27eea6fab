-- Firing where no attribute is folded: by plain equality of texts.
use Rattle.std.specs.Prelude.{◌≡◌, ℕ, ◌<◌, false, List, length, All}
use Rattle.fix_model.specs.declared.kit.Kit.{Kit}
use Rattle.fix_model.specs.declared.pattern.Pat.{Pat}
use Rattle.fix_model.specs.declared.state.State.{State}
use Rattle.fix_model.specs.declared.state.Step.{Step}
use Rattle.fix_model.specs.Application.{IsUsable}
use Rattle.fix_model.specs.Pattern.{MatchesBy}
use Rattle.fix_model.specs.Rules.{rule_at, master_text}
use Rattle.fix_model.specs.States.{IsCovered, value_at}

-- no attribute is folded
abbrev pub IsUnfolded : Kit → Type 0
IsUnfolded kit = All (λ flag. flag ≡ false) kit.folded

-- the pattern matches the text, where only equal texts count as one
abbrev pub MatchesExactly : Pat → List ℕ → Type 0
MatchesExactly pat text = MatchesBy (λ one other. one ≡ other) pat text

-- the row is usable, keys and conditions are covered and the head is not, the conditions match, and the values at the
-- keys equal the row's cells
pub record FiresExactly (kit : Kit) (state : State) (step : Step) : Type 0 where
  pub rule_within : step.rule < length kit.rules
  pub usable : IsUsable kit (rule_at kit step.rule) step.row
  pub keys : All (λ key. IsCovered state key.0) (rule_at kit step.rule).keys
  pub conds : All (λ cond. IsCovered state cond.0) (rule_at kit step.rule).conds
  pub uncovered : ¬ IsCovered state (rule_at kit step.rule).head
  pub matched : All (λ cond. MatchesExactly cond.1 (value_at kit state cond.0)) (rule_at kit step.rule).conds
  pub equal : All (λ key. value_at kit state key.0 ≡ master_text kit (rule_at kit step.rule) step.row key.1)
      (rule_at kit step.rule).keys

-- What stands in the way of a rule.
use Rattle.std.specs.Prelude.{◌≡◌, ◌≢◌, ◌==◌, ◌++◌, ◌∷◌, ℕ, Bool, not, List, [], All, filter, map}
use Rattle.std.specs.List.{list_any}
use Rattle.fix_model.specs.declared.kit.Kit.{Kit}
use Rattle.fix_model.specs.declared.pattern.Pat.{Pat}
use Rattle.fix_model.specs.declared.rule.Rule.{Rule}
use Rattle.fix_model.specs.declared.state.State.{State}
use Rattle.fix_model.specs.Application.{IsEnabled}
use Rattle.fix_model.specs.Hit.{IsMissed}
use Rattle.fix_model.specs.Pattern.{Matches}
use Rattle.fix_model.specs.Rules.{is_folded}
use Rattle.fix_model.specs.States.{cell_at, is_covering, value_at}
use Rattle.fix_blockers.specs.declared.blocker.Blocker.{Blocker}
use Rattle.fix_blockers.specs.declared.blocker.Blocker.TheVariants.{Unknown, Pattern, NoRow}

-- whether an attribute is not covered
abbrev pub is_uncovered : State → ℕ → Bool
is_uncovered state attribute = not (is_covering (cell_at state attribute))

-- whether an attribute is a key of a rule
abbrev pub is_key : Rule → ℕ → Bool
is_key rule attribute = list_any (λ key. key.0 == attribute) rule.keys

-- the attributes of a rule's keys
abbrev pub key_attributes : Rule → List ℕ
key_attributes rule = map (λ key. key.0) rule.keys

-- the attributes of its conditions that are no keys
abbrev pub other_attributes : Rule → List ℕ
other_attributes rule = filter (λ attribute. not (is_key rule attribute)) (map (λ cond. cond.0) rule.conds)

-- those that are not covered, keys first; in a valid rule none stands twice
abbrev pub unknown : State → Rule → List ℕ
unknown state rule =
    filter (is_uncovered state) (key_attributes rule) ++ filter (is_uncovered state) (other_attributes rule)

-- the condition matches the value of its attribute
abbrev pub IsMet : Kit → State → ℕ × Pat → Type 0
IsMet kit state cond = Matches (is_folded kit cond.0) cond.1 (value_at kit state cond.0)

-- conditions that match, and then one at this attribute that does not
pub record IsFirstUnmet (kit : Kit) (state : State) (rule : Rule) (attribute : ℕ) : Type 0 where
  pub before : List (ℕ × Pat)
  pub pattern : Pat
  pub later : List (ℕ × Pat)
  pub there : rule.conds ≡ before ++ (attribute, pattern) ∷ later
  pub met : All (IsMet kit state) before
  pub unmet : ¬ IsMet kit state (attribute, pattern)

-- what stands in the way of a rule: attributes that are not covered; where all are covered, the first condition that
-- does not match; where all match, that no row agrees
abbrev pub IsBlocker : Kit → State → Rule → Blocker → Type 0
IsBlocker kit state rule (Unknown attributes) = (attributes ≡ unknown state rule) × (attributes ≢ [])
IsBlocker kit state rule (Pattern attribute) = (unknown state rule ≡ []) × IsFirstUnmet kit state rule attribute
IsBlocker kit state rule NoRow = IsEnabled kit state rule × IsMissed kit (value_at kit state) rule

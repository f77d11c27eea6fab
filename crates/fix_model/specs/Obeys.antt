-- Records that agree with a state, and records that obey the rules.
use Rattle.std.specs.Prelude.{◌≡◌, ℕ, ◌<◌, List, [], length, slice_index_or}
use Rattle.fix_model.specs.declared.kit.Kit.{Kit}
use Rattle.fix_model.specs.declared.state.State.{State}
use Rattle.fix_model.specs.Application.{RowAgrees, AreMatched}
use Rattle.fix_model.specs.Rules.{rule_at, from_text}
use Rattle.fix_model.specs.States.{IsCovered, value_at}

-- the text of a record at an attribute
abbrev pub text_at : List (List ℕ) → ℕ → List ℕ
text_at texts attribute = slice_index_or texts attribute []

-- the record has a text for each attribute, and the state's value at every covered one
pub record RecordAgrees (kit : Kit) (state : State) (texts : List (List ℕ)) : Type 0 where
  pub width : length texts ≡ kit.width
  pub covered : (attribute : ℕ) → attribute < kit.width → IsCovered state attribute
      → text_at texts attribute ≡ value_at kit state attribute

-- where a usable row agrees with the record at the keys of a rule and the conditions match it, the head has the text
-- that the row gives
abbrev pub Obeys : Kit → List (List ℕ) → Type 0
Obeys kit texts = (place row : ℕ) → place < length kit.rules
    → RowAgrees kit (text_at texts) (rule_at kit place) row → AreMatched kit (text_at texts) (rule_at kit place)
    → text_at texts (rule_at kit place).head ≡ from_text kit (rule_at kit place) row

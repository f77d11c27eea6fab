-- What can be hoped for: the attributes that the rules may yet fix, whatever texts the clerk will confirm.
use Rattle.std.specs.Prelude.{◌≡◌, ℕ, ◌<◌, Bool, List, [], length, All, Contains, slice_index_or}
use Rattle.fix_model.specs.declared.kit.Kit.{Kit}
use Rattle.fix_model.specs.declared.rule.Rule.{Rule}
use Rattle.fix_model.specs.declared.state.Cell.TheVariants.{Confirmed}
use Rattle.fix_model.specs.declared.state.State.{State}
use Rattle.fix_model.specs.Hit.{SomeRowAgrees}
use Rattle.fix_model.specs.Pattern.{Matches}
use Rattle.fix_model.specs.Rules.{is_folded, rule_at}
use Rattle.fix_model.specs.States.{IsCovered, cell_at, value_at}
use Rattle.fix_engine.specs.Flags.{HasFlags, IsFlagged}

-- each condition of the rule whose attribute is covered matches the value there
abbrev pub AreMatchedWhereCovered : Kit → State → Rule → Type 0
AreMatchedWhereCovered kit state rule =
    All (λ cond. IsCovered state cond.0 → Matches (is_folded kit cond.0) cond.1 (value_at kit state cond.0)) rule.conds

-- the rule is open: its head is uncovered, its covered conditions match, and some usable row agrees at its covered keys
pub record IsOpen (kit : Kit) (state : State) (rule : Rule) : Type 0 where
  pub uncovered : ¬ IsCovered state rule.head
  pub matched : AreMatchedWhereCovered kit state rule
  pub agrees : SomeRowAgrees kit state rule

-- a closed set holds the covered attributes and the given ones and, with all keys and conditions of an open rule, its
-- head
pub record IsHopeClosed (kit : Kit) (state : State) (given : ℕ → Type 0) (flags : List Bool) : Type 0 where
  pub whole : length flags ≡ kit.width
  pub covered : (attribute : ℕ) → IsCovered state attribute → IsFlagged flags attribute
  pub given_ones : (attribute : ℕ) → attribute < kit.width → given attribute → IsFlagged flags attribute
  pub heads : (place : ℕ) → place < length kit.rules → IsOpen kit state (rule_at kit place)
      → HasFlags flags (rule_at kit place) → IsFlagged flags (rule_at kit place).head

-- the attribute is in the hoped closure, the least closed set: each closed set holds it
abbrev pub IsHoped : Kit → State → (ℕ → Type 0) → ℕ → Type 0
IsHoped kit state given attribute = (flags : List Bool) → IsHopeClosed kit state given flags → IsFlagged flags attribute

-- the hoped closure is all attributes
abbrev pub AreAllHoped : Kit → State → (ℕ → Type 0) → Type 0
AreAllHoped kit state given = (attribute : ℕ) → attribute < kit.width → IsHoped kit state given attribute

-- the state is as before, but these attributes are confirmed now, whatever their texts
pub record ConfirmsMore (before after : State) (attributes : List ℕ) : Type 0 where
  pub confirmed : All (λ attribute. cell_at after attribute ≡ Confirmed) attributes
  pub cells : (attribute : ℕ) → ¬ Contains attributes attribute → cell_at after attribute ≡ cell_at before attribute
  pub typed : (attribute : ℕ) → ¬ Contains attributes attribute
      → slice_index_or after.typed attribute [] ≡ slice_index_or before.typed attribute []

-- What a look into the master data of a rule finds.
use Rattle.std.specs.Prelude.{◌≡◌, ◌≢◌, ℕ, ◌≤◌, List, [], filter, Option, MatchOption}
use Rattle.fix_model.specs.declared.book.Hit.{Hit}
use Rattle.fix_model.specs.declared.kit.Kit.{Kit}
use Rattle.fix_model.specs.declared.rule.Rule.{Rule}
use Rattle.fix_model.specs.declared.state.State.{State}
use Rattle.fix_model.specs.Application.{RowAgrees, RowAgreesAt}
use Rattle.fix_model.specs.Rules.{from_text, rule_at}
use Rattle.fix_model.specs.States.{cell_at, is_covering, value_at}

-- the row is the least of those that agree
pub record IsFirstOf (Agrees : ℕ → Type 0) (row : ℕ) : Type 0 where
  pub agrees : Agrees row
  pub least : (other : ℕ) → Agrees other → row ≤ other

-- the row is the least of those that agree and give another text than the first one
pub record IsOtherOf (text : ℕ → List ℕ) (Agrees : ℕ → Type 0) (first row : ℕ) : Type 0 where
  pub agrees : Agrees row
  pub differs : text row ≢ text first
  pub least : (other : ℕ) → Agrees other → text other ≢ text first → row ≤ other

-- of the rows that agree the least, and the least that gives another text, or none where all give the same
pub record IsHitOf (text : ℕ → List ℕ) (Agrees : ℕ → Type 0) (hit : Hit) : Type 0 where
  pub first : IsFirstOf Agrees hit.first
  pub other : MatchOption hit.other
      ((row : ℕ) → Agrees row → text row ≡ text hit.first)
      (IsOtherOf text Agrees hit.first)

-- the row is the least of the rule's master that agrees with the values at the keys
abbrev pub IsFirstRow : Kit → (ℕ → List ℕ) → Rule → ℕ → Type 0
IsFirstRow kit values rule = IsFirstOf (RowAgrees kit values rule)

-- the row is the least that agrees with the values at the keys and gives another text than the first one
abbrev pub IsOtherRow : Kit → (ℕ → List ℕ) → Rule → ℕ → ℕ → Type 0
IsOtherRow kit values rule = IsOtherOf (from_text kit rule) (RowAgrees kit values rule)

-- the least row that agrees, and the least of those that give another text, or none where all give the same
abbrev pub IsHit : Kit → (ℕ → List ℕ) → Rule → Hit → Type 0
IsHit kit values rule = IsHitOf (from_text kit rule) (RowAgrees kit values rule)

-- no row agrees
abbrev pub IsMissed : Kit → (ℕ → List ℕ) → Rule → Type 0
IsMissed kit values rule = (row : ℕ) → ¬ RowAgrees kit values rule row

-- what a look answers: nothing exactly where no row agrees
abbrev pub IsFound : Kit → (ℕ → List ℕ) → Rule → Option Hit → Type 0
IsFound kit values rule answer = MatchOption answer (IsMissed kit values rule) (IsHit kit values rule)

-- the rule shares its look with one that comes no later: they have the same keys, conditions, master and `from`
pub record SharesLook (kit : Kit) (rule earlier : ℕ) : Type 0 where
  pub up_to : earlier ≤ rule
  pub keys : (rule_at kit rule).keys ≡ (rule_at kit earlier).keys
  pub conds : (rule_at kit rule).conds ≡ (rule_at kit earlier).conds
  pub master : (rule_at kit rule).master ≡ (rule_at kit earlier).master
  pub from : (rule_at kit rule).from ≡ (rule_at kit earlier).from

-- the rules have no conditions, and the same keys, master and `from`
pub record HaveSameLook (rule other : Rule) : Type 0 where
  pub keys : rule.keys ≡ other.keys
  pub conds : rule.conds ≡ []
  pub other_conds : other.conds ≡ []
  pub master : rule.master ≡ other.master
  pub from : rule.from ≡ other.from

-- those of some keys whose attributes are covered
abbrev pub covered_among : State → List (ℕ × ℕ) → List (ℕ × ℕ)
covered_among state keys = filter (λ key. is_covering (cell_at state key.0)) keys

-- the keys of a rule whose attributes are covered
abbrev pub covered_keys : State → Rule → List (ℕ × ℕ)
covered_keys state rule = covered_among state rule.keys

-- some usable row agrees with the values at the covered keys
abbrev pub SomeRowAgrees : Kit → State → Rule → Type 0
SomeRowAgrees kit state rule = (row : ℕ) × RowAgreesAt kit (value_at kit state) rule (covered_keys state rule) row

-- When a rule is applied with a master row, and what that changes.
use Rattle.std.specs.Prelude.{◌≢◌, ℕ, ◌<◌, Bool, ◌&&◌, List, [], length, All, count_by, slice_set}
use Rattle.std.specs.List.{list_all}
use Rattle.desk_base.specs.Grid.{GridRows, cell_text}
use Rattle.fix_model.specs.declared.rule.Rule.{Rule}
use Rattle.fix_model.specs.declared.kit.Kit.{Kit}
use Rattle.fix_model.specs.declared.state.Cell.TheVariants.{Fixed}
use Rattle.fix_model.specs.declared.state.State.{State}
use Rattle.fix_model.specs.declared.state.Step.{Step}
use Rattle.fix_model.specs.Alike.{AreAlike}
use Rattle.fix_model.specs.Pattern.{Matches}
use Rattle.fix_model.specs.Rules.{rule_at, master_of, master_text, is_folded}
use Rattle.fix_model.specs.States.{IsCovered, cell_at, is_covering, value_at}

-- the row is one of the master, and neither its cells at the rule's keys nor its `from` cell is blank
pub record IsUsableIn (master : GridRows) (rule : Rule) (row : ℕ) : Type 0 where
  pub row_within : row < length master.rows
  pub keys : All (λ key. cell_text master row key.1 ≢ []) rule.keys
  pub from : cell_text master row rule.from ≢ []

-- the row is usable in the rule's master
abbrev pub IsUsable : Kit → Rule → ℕ → Type 0
IsUsable kit rule = IsUsableIn (master_of kit rule) rule

-- the row is usable, and its cells at these keys are alike the values there
pub record RowAgreesAt (kit : Kit) (values : ℕ → List ℕ) (rule : Rule) (keys : List (ℕ × ℕ)) (row : ℕ) : Type 0 where
  pub usable : IsUsable kit rule row
  pub alike : All (λ key. AreAlike (is_folded kit key.0) (values key.0) (master_text kit rule row key.1)) keys

-- the row is usable, and agrees with the values at all keys
abbrev pub RowAgrees : Kit → (ℕ → List ℕ) → Rule → ℕ → Type 0
RowAgrees kit values rule row = RowAgreesAt kit values rule rule.keys row

-- each condition of the rule matches the value of its attribute
abbrev pub AreMatched : Kit → (ℕ → List ℕ) → Rule → Type 0
AreMatched kit values rule = All (λ cond. Matches (is_folded kit cond.0) cond.1 (values cond.0)) rule.conds

-- whether the rule's keys and conditions, its left side, are covered
abbrev pub covers_left_side : State → Rule → Bool
covers_left_side state rule =
    list_all (λ key. is_covering (cell_at state key.0)) rule.keys
    && list_all (λ cond. is_covering (cell_at state cond.0)) rule.conds

-- how many rules have a covered left side
abbrev pub covered_left_sides : Kit → State → ℕ
covered_left_sides kit state = count_by (covers_left_side state) kit.rules

-- the rule's keys and conditions are covered, and each condition matches; of the keys' values nothing is said
pub record IsEnabled (kit : Kit) (state : State) (rule : Rule) : Type 0 where
  pub keys : All (λ key. IsCovered state key.0) rule.keys
  pub conds : All (λ cond. IsCovered state cond.0) rule.conds
  pub matched : AreMatched kit (value_at kit state) rule

-- the step may be made: its rule is enabled, the head is not covered yet, and its row agrees
pub record Fires (kit : Kit) (state : State) (step : Step) : Type 0 where
  pub rule_within : step.rule < length kit.rules
  pub enabled : IsEnabled kit state (rule_at kit step.rule)
  pub uncovered : ¬ IsCovered state (rule_at kit step.rule).head
  pub agrees : RowAgrees kit (value_at kit state) (rule_at kit step.rule) step.row

-- the state after a step: the head of its rule is fixed by it, and all else stays
abbrev pub after : Kit → State → Step → State
after kit state step = record state { cells = slice_set state.cells (rule_at kit step.rule).head (Fixed step) }

-- How many attributes are uncovered.
use Rattle.std.proofs.Common.{◌≡◌, ◌<◌, ◌≤◌, ◌+◌, ℕ, zero, suc, List, [], ◌∷◌, Bool, true, false, not, length, set}
use Rattle.std.proofs.Common.{get_or, arith, add-one, inl, inr, refl}
use Rattle.std.specs.Prelude.{filter}
use Rattle.std.proofs.lemmas.Bool.{cases_Bool}
use Rattle.fix_model.specs.declared.kit.Kit.{Kit}
use Rattle.fix_model.specs.declared.state.Cell.{Cell}
use Rattle.fix_model.specs.declared.state.Cell.TheVariants.{Uncovered, Fixed}
use Rattle.fix_model.specs.declared.state.State.{State}
use Rattle.fix_model.specs.declared.state.Step.{Step}
use Rattle.fix_model.specs.Application.{Fires, after}
use Rattle.fix_model.specs.Rules.{rule_at}
use Rattle.fix_model.specs.States.{Fits, is_covering, cell_at, uncovered_count}
use Rattle.fix_model.specs.Valid.{IsValid, IsValidRule}

-- where an item that passes is replaced by one that fails, one fewer passes
pub length-filter-set : {A : Type 0} (test : A → Bool) (items : List A) (place : ℕ) (item d : A)
    → place < length items → test (get_or items place d) ≡ true → test item ≡ false
    → length (filter test (set items place item)) + 1 ≡ length (filter test items)
length-filter-set test [] place item d within passed fails = absurd (omega arith)
length-filter-set test (first ∷ items) zero item d within passed fails = rw (passed, fails)
    (add-one (length (filter test items)))
length-filter-set test (first ∷ items) (suc place) item d within passed fails = elim (cases_Bool (test first)) [
  | inl passes ↦ rw passes (omega (arith, length-filter-set test items place item d (omega arith) passed fails))
  | inr other ↦ rw other (length-filter-set test items place item d (omega arith) passed fails)
]

-- a cell that does not cover is uncovered
uncovered_cell : (cell : Cell) → ¬ (is_covering cell ≡ true) → not (is_covering cell) ≡ true
uncovered_cell cell nothing = elim (cases_Bool (is_covering cell)) [
  | inl covers ↦ absurd (nothing covers)
  | inr none ↦ rw none refl
]

-- a step covers one attribute more
pub uncovered_count-after : (kit : Kit) (state : State) (step : Step)
    → (rule_at kit step.rule).head < length state.cells → Fires kit state step
    → uncovered_count (after kit state step) + 1 ≡ uncovered_count state
uncovered_count-after kit state step within fires =
    length-filter-set (λ cell. not (is_covering cell)) state.cells (rule_at kit step.rule).head (Fixed step) Uncovered
    within (uncovered_cell (cell_at state (rule_at kit step.rule).head) fires.uncovered) refl

-- the head of a rule of a valid kit has a cell in a state that fits
pub head_within : (kit : Kit) (state : State) (place : ℕ) → IsValid kit → Fits kit state → place < length kit.rules
    → (rule_at kit place).head < length state.cells
head_within kit state place valid fits within =
    let rule : IsValidRule kit (rule_at kit place) = valid.rules place _ within in
    omega (arith, rule.head, fits.cells)

-- so each step that fires leaves one uncovered attribute fewer
pub uncovered_count-step : (kit : Kit) (state : State) (step : Step) → IsValid kit → Fits kit state
    → Fires kit state step → uncovered_count (after kit state step) + 1 ≡ uncovered_count state
uncovered_count-step kit state step valid fits fires = uncovered_count-after kit state step
    (head_within kit state step.rule valid fits fires.rule_within) fires

-- what passes a test is no more than all
length-filter-le : {A : Type 0} (test : A → Bool) (items : List A) → length (filter test items) ≤ length items
length-filter-le test [] = omega arith
length-filter-le test (first ∷ items) = elim (cases_Bool (test first)) [
  | inl passes ↦ rw passes (omega (arith, length-filter-le test items))
  | inr fails ↦ rw fails (omega (arith, length-filter-le test items))
]

-- no more attributes are uncovered than there are
pub uncovered_count-le : (kit : Kit) (state : State) → Fits kit state → uncovered_count state ≤ kit.width
uncovered_count-le kit state fits = omega (
  arith,
  length-filter-le (λ cell. not (is_covering cell)) state.cells,
  fits.cells,
)

-- The left sides of rules, their keys and conditions.
use Rattle.std.proofs.Common.{◌≡◌, ◌≤◌, Bool, true, false, inl, inr, length, refl, sym}
use Rattle.std.specs.Prelude.{◌↔◌, All, IsTrue}
use Rattle.std.proofs.lemmas.Bool.{and_from, and_parts, cases_Bool}
use Rattle.std.proofs.lemmas.List.Sums.{AllPass-from_list_all, count_by-le-length, list_all-from_AllPass}
use Rattle.fix_model.specs.declared.kit.Kit.{Kit}
use Rattle.fix_model.specs.declared.rule.Rule.{Rule}
use Rattle.fix_model.specs.declared.state.State.{State}
use Rattle.fix_model.specs.Application.{covered_left_sides, covers_left_side}
use Rattle.fix_model.specs.States.{IsCovered, cell_at, is_covering}

-- where the keys and the conditions are covered, the left side is
pub covers_left_side-all : (state : State) (rule : Rule) → All (λ key. IsCovered state key.0) rule.keys
    → All (λ cond. IsCovered state cond.0) rule.conds → covers_left_side state rule ≡ true
covers_left_side-all state rule keys conds =
    and_from _ _ (list_all-from_AllPass (λ key. is_covering (cell_at state key.0)) rule.keys keys)
    (list_all-from_AllPass (λ cond. is_covering (cell_at state cond.0)) rule.conds conds)

-- and where the left side is, they are
pub all-covers_left_side : (state : State) (rule : Rule) → covers_left_side state rule ≡ true
    → All (λ key. IsCovered state key.0) rule.keys × All (λ cond. IsCovered state cond.0) rule.conds
all-covers_left_side state rule covers = let both = and_parts _ _ covers in (
  AllPass-from_list_all (λ key. is_covering (cell_at state key.0)) rule.keys both.0,
  AllPass-from_list_all (λ cond. is_covering (cell_at state cond.0)) rule.conds both.1,
)

-- where the keys are covered, a test of the conditions tells whether the left side is
pub covers_left_side-conds : (state : State) (rule : Rule) (conds : Bool)
    → All (λ key. IsCovered state key.0) rule.keys → IsTrue conds ↔ All (λ cond. IsCovered state cond.0) rule.conds
    → conds ≡ covers_left_side state rule
covers_left_side-conds state rule true keys told = sym (covers_left_side-all state rule keys (told.0 refl))
covers_left_side-conds state rule false keys told = elim (cases_Bool (covers_left_side state rule)) [
  | inl covers ↦ absurd (let passes = told.1 (all-covers_left_side state rule covers).1 in cc)
  | inr none ↦ sym none
]

-- where they are not, it is not
pub covers_left_side-no_keys : (state : State) (rule : Rule) → ¬ All (λ key. IsCovered state key.0) rule.keys
    → false ≡ covers_left_side state rule
covers_left_side-no_keys state rule none = elim (cases_Bool (covers_left_side state rule)) [
  | inl covers ↦ absurd (none (all-covers_left_side state rule covers).0)
  | inr fails ↦ sym fails
]

-- no more left sides are covered than there are rules
pub few_left_sides : (kit : Kit) (state : State) → covered_left_sides kit state ≤ length kit.rules
few_left_sides kit state = count_by-le-length (covers_left_side state) kit.rules

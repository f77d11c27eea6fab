-- Lists of steps with some steps left out: how long they are, and what they have.
use Rattle.std.proofs.Common.{◌≡◌, ◌⊎◌, ◌<◌, ◌∙◌, ℕ, zero, suc, List, [], ◌∷◌, ◌++◌, ap, arith, inl, inr, length}
use Rattle.std.proofs.Common.{refl}
use Rattle.std.specs.List.{remove}
use Rattle.fix_model.specs.declared.state.Step.{Step}
use Rattle.fix_explain.specs.SubLists.{IsSubList}

-- a step more in the whole list changes nothing
pub IsSubList-skip : (step : Step) (part whole : List Step) → IsSubList part whole → IsSubList part (step ∷ whole)
IsSubList-skip step [] whole sub = tt
IsSubList-skip step (first ∷ part) whole sub = inr sub

-- a list is a sub-list of itself
pub IsSubList-refl : (steps : List Step) → IsSubList steps steps
IsSubList-refl [] = tt
IsSubList-refl (step ∷ steps) = inl (refl, IsSubList-refl steps)

-- a sub-list of a sub-list is one
pub IsSubList-trans : (part middle whole : List Step) → IsSubList part middle → IsSubList middle whole
    → IsSubList part whole
IsSubList-trans [] middle whole inner outer = tt
IsSubList-trans (step ∷ part) [] whole inner outer = absurd inner
IsSubList-trans (step ∷ part) (first ∷ middle) [] inner outer = absurd outer
IsSubList-trans (step ∷ part) (first ∷ middle) (next ∷ whole) inner outer = elim outer [
  | inr later ↦ inr (IsSubList-trans (step ∷ part) (first ∷ middle) whole inner later)
  | inl here ↦ elim inner [
    | inl same ↦ inl (same.0 ∙ here.0, IsSubList-trans part middle whole same.1 here.1)
    | inr following ↦ inr (IsSubList-trans (step ∷ part) middle whole following here.1)
  ]
]

-- a sub-list is the whole list, or shorter
pub IsSubList-shorter : (part whole : List Step) → IsSubList part whole
    → (part ≡ whole) ⊎ (length part < length whole)
IsSubList-shorter [] [] sub = inl refl
IsSubList-shorter [] (step ∷ whole) sub = inr (omega arith)
IsSubList-shorter (step ∷ part) [] sub = absurd sub
IsSubList-shorter (step ∷ part) (first ∷ whole) sub = elim sub [
  | inl here ↦ elim (IsSubList-shorter part whole here.1) [
    | inl same ↦ inl (rw (here.0, same) refl)
    | inr less ↦ inr (omega (arith, less))
  ]
  | inr later ↦ elim (IsSubList-shorter (step ∷ part) whole later) [
    | inl same ↦ inr (omega (arith, ap length same))
    | inr less ↦ inr (omega (arith, less))
  ]
]

-- without the step at a place it is a sub-list
pub IsSubList-remove : (steps : List Step) (place : ℕ) → place < length steps → IsSubList (remove steps place) steps
IsSubList-remove [] place within = absurd (omega (arith, within))
IsSubList-remove (step ∷ steps) zero within = IsSubList-skip step steps steps (IsSubList-refl steps)
IsSubList-remove (step ∷ steps) (suc place) within = inl (refl, IsSubList-remove steps place (omega (arith, within)))

-- the beginning of a list is a sub-list
pub IsSubList-front : (front rest : List Step) → IsSubList front (front ++ rest)
IsSubList-front [] rest = tt
IsSubList-front (step ∷ front) rest = inl (refl, IsSubList-front front rest)

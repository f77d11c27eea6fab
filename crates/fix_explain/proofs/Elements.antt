-- Whether something holds of an element of a list.
use Rattle.std.proofs.Common.{◌≡◌, ◌⊎◌, ◌∙◌, ℕ, zero, suc, List, [], ◌∷◌, ◌++◌, arith, inl, inr, length}
use Rattle.std.proofs.Common.{length-append, refl, subst, sym}
use Rattle.std.specs.Prelude.{Any, Contains}
use Rattle.std.proofs.lemmas.Bool.{cases_eq, cases_lt}
use Rattle.std.proofs.lemmas.List.{get_or_append_left, get_or_default, get_or_push}
use Rattle.fix_model.proofs.Deciding.{decide_any}

-- what holds of an element holds of one of a longer list
pub Any-longer : {X : Type 0} (Holds : X → Type 0) (xs : List X) (x : X) → Any Holds xs → Any Holds (xs ++ x ∷ [])
Any-longer Holds xs x (place, one, within, stands, holds) = (
  place,
  one,
  rw (length-append xs (x ∷ [])) (omega (arith, within)),
  get_or_append_left xs (x ∷ []) one place within ∙ stands,
  holds,
)

-- what holds of an element of a longer list holds of one of the list, or of the last
pub Any-push_cases : {X : Type 0} (Holds : X → Type 0) (xs : List X) (x : X) → Any Holds (xs ++ x ∷ [])
    → Any Holds xs ⊎ Holds x
Any-push_cases Holds xs x (place, one, below, stands, holds) = elim (cases_lt place (length xs)) [
  | inl within ↦
      inl (place, one, within, sym (get_or_append_left xs (x ∷ []) one place within) ∙ stands, holds)
  | inr past ↦
      let last : length xs ≡ place = omega (arith, past, below, length-append xs (x ∷ [])) in
      inr (subst Holds (sym stands ∙ get_or_push xs x one place last) holds)
]

module _ {X : Type 0} (Holds : X → Type 0) where
  -- it does where it holds of the first
  pub Any-first : (x : X) (xs : List X) → Holds x → Any Holds (x ∷ xs)
  Any-first x xs holds = (0, x, omega arith, refl, holds)

  -- or of one of the others
  pub Any-later : (x : X) (xs : List X) → Any Holds xs → Any Holds (x ∷ xs)
  Any-later x xs (place, one, within, is, holds) = (suc place, one, omega (arith, within), is, holds)

  -- and not otherwise
  pub Any-cases : (x : X) (xs : List X) → Any Holds (x ∷ xs) → Holds x ⊎ Any Holds xs
  Any-cases x xs (zero, one, within, is, holds) = inl (subst Holds (sym is) holds)
  Any-cases x xs (suc place, one, within, is, holds) = inr (place, one, omega (arith, within), is, holds)

  -- of no element of the empty list
  pub Any-nil : ¬ Any Holds []
  Any-nil (place, one, within, is, holds) = omega (arith, within)

-- a number is listed, or it is not
pub decide_listed : (numbers : List ℕ) (number : ℕ) → Contains numbers number ⊎ ¬ Contains numbers number
decide_listed numbers number = elim (decide_any (λ one. one ≡ number) (λ one. cases_eq one number) numbers) [
  | inl (place, one, within, stands, same) ↦
      inl (place, within, rw (get_or_default numbers place number one within) (stands ∙ same))
  | inr none ↦ inr (λ (place, within, stands). none (place, number, within, stands, refl))
]

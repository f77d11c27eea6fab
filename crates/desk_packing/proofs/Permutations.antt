-- Lists that hold the same in another order.
use Rattle.std.proofs.Common.{◌≡◌, ℕ, zero, suc, ◌<◌, Bool, List, [], ◌∷◌, ◌++◌, length, get_or, set, filter, inl}
use Rattle.std.proofs.Common.{inr, arith}
use Rattle.std.specs.Prelude.{IsPermutation}
use Rattle.std.specs.List.{AllByRecursion, swap}
use Rattle.std.proofs.lemmas.Bool.{cases_Bool}
use Rattle.std.proofs.lemmas.List.Sorted.{IsPermutation-append_comm, IsPermutation-append_left, IsPermutation-cons}
use Rattle.std.proofs.lemmas.List.Sorted.{IsPermutation-keeps, IsPermutation-refl, IsPermutation-trans}

-- what holds of equal lists, goes on from list to list, and bears one head more and two heads in the other order
module _ {X : Type 0} (R : List X → List X → Type 0) (same : (xs : List X) → R xs xs)
    (under : (x : X) (xs ys : List X) → R xs ys → R (x ∷ xs) (x ∷ ys))
    (turned : (x y : X) (xs : List X) → R (x ∷ y ∷ xs) (y ∷ x ∷ xs))
    (onward : (xs ys zs : List X) → R xs ys → R ys zs → R xs zs) where
  -- a head changes its place with a later item
  with_later : (x d : X) (xs : List X) (place : ℕ) → place < length xs → R (x ∷ xs) (get_or xs place d ∷ set xs place x)
  with_later x d [] place within = absurd (omega arith)
  with_later x d (y ∷ xs) zero within = turned x y xs
  with_later x d (y ∷ xs) (suc place) within =
      let later = with_later x d xs place (omega arith) in
      let moved = onward _ _ _ (under y _ _ later) (turned y (get_or xs place d) (set xs place x)) in
      onward _ _ _ (turned x y xs) moved

  -- and so do any two
  exchanged : (d : X) (xs : List X) (i j : ℕ) → i < length xs → j < length xs
      → R xs (set (set xs i (get_or xs j d)) j (get_or xs i d))
  exchanged d [] i j one other = absurd (omega arith)
  exchanged d (x ∷ xs) zero zero one other = same (x ∷ xs)
  exchanged d (x ∷ xs) zero (suc j) one other = with_later x d xs j (omega arith)
  exchanged d (x ∷ xs) (suc i) zero one other = with_later x d xs i (omega arith)
  exchanged d (x ∷ xs) (suc i) (suc j) one other = under x _ _ (exchanged d xs i j (omega arith) (omega arith))

  swapped : (xs : List X) (i j : ℕ) → i < length xs → j < length xs → R xs (swap xs i j)
  swapped [] i j one other = same []
  swapped (x ∷ xs) i j one other = exchanged x (x ∷ xs) i j one other

  pub along : (xs ys : List X) → IsPermutation xs ys → R xs ys
  along xs = IsPermutation-keeps xs (R xs) (same xs)
      (λ zs i j one other before. onward xs zs _ before (swapped zs i j one other))

module _ {X : Type 0} where
  -- two heads in the other order
  pub turn : (x y : X) (xs : List X) → IsPermutation (x ∷ y ∷ xs) (y ∷ x ∷ xs)
  turn x y xs = IsPermutation-append_left xs (x ∷ y ∷ []) (y ∷ x ∷ []) (IsPermutation-append_comm (x ∷ []) (y ∷ []))

  pub equal : (xs ys : List X) → xs ≡ ys → IsPermutation xs ys
  equal xs ys same = rw same (IsPermutation-refl ys)

  module _ (p : X → Bool) where
    filter-under : (x : X) (xs ys : List X) → IsPermutation (filter p xs) (filter p ys)
        → IsPermutation (filter p (x ∷ xs)) (filter p (x ∷ ys))
    filter-under x xs ys before = elim (cases_Bool (p x)) [
      | inl passes ↦ rw passes (IsPermutation-cons x _ _ before)
      | inr fails ↦ rw fails before
    ]

    filter-turned : (x y : X) (xs : List X) → IsPermutation (filter p (x ∷ y ∷ xs)) (filter p (y ∷ x ∷ xs))
    filter-turned x y xs = elim (cases_Bool (p x)) [
      | inl passes ↦ elim (cases_Bool (p y)) [
        | inl passes_too ↦ simp (passes, passes_too) (turn x y (filter p xs))
        | inr fails ↦ simp (passes, fails) (IsPermutation-refl (x ∷ filter p xs))
      ]
      | inr fails ↦ elim (cases_Bool (p y)) [
        | inl passes ↦ simp (fails, passes) (IsPermutation-refl (y ∷ filter p xs))
        | inr fails_too ↦ simp (fails, fails_too) (IsPermutation-refl (filter p xs))
      ]
    ]

    -- those items of the lists that pass a test are the same in another order
    pub IsPermutation-filter : (xs ys : List X) → IsPermutation xs ys → IsPermutation (filter p xs) (filter p ys)
    IsPermutation-filter = along (λ xs ys. IsPermutation (filter p xs) (filter p ys))
        (λ xs. IsPermutation-refl (filter p xs)) filter-under filter-turned
        (λ xs ys zs. IsPermutation-trans (filter p xs) (filter p ys) (filter p zs))

  -- what holds of each item holds of each with the first two in the other order
  pub each-turned : (P : X → Type 0) (x y : X) (xs : List X) → AllByRecursion P (x ∷ y ∷ xs)
      → AllByRecursion P (y ∷ x ∷ xs)
  each-turned P x y xs (first, (next, each)) = (next, (first, each))

  -- what holds of each item holds of each in another order
  pub each-permutation : (P : X → Type 0) (xs ys : List X) → IsPermutation xs ys → AllByRecursion P xs
      → AllByRecursion P ys
  each-permutation P = along (λ xs ys. AllByRecursion P xs → AllByRecursion P ys)
      (λ xs each. each)
      (λ x xs ys before each. (each.0, before each.1))
      (each-turned P)
      (λ xs ys zs first then each. then (first each))

  pub each-append : (P : X → Type 0) (xs ys : List X) → AllByRecursion P xs → AllByRecursion P ys
      → AllByRecursion P (xs ++ ys)
  each-append P [] ys one other = other
  each-append P (x ∷ xs) ys one other = (one.0, each-append P xs ys one.1 other)

  pub each-weaker : (P Q : X → Type 0) → ((x : X) → P x → Q x) → (xs : List X) → AllByRecursion P xs
      → AllByRecursion Q xs
  each-weaker P Q weaker [] each = tt
  each-weaker P Q weaker (x ∷ xs) each = (weaker x each.0, each-weaker P Q weaker xs each.1)

-- What holds of the items that pass a test.
use Rattle.std.proofs.Common.{◌≡◌, ◌<◌, ◌+◌, ◌∙◌, ◌++◌, ℕ, inl, inr, List, [], ◌∷◌, Bool, true, false, length, take}
use Rattle.std.proofs.Common.{get_or, add-one, ap, refl}
use Rattle.std.proofs.Math.Seq.{take-suc}
use Rattle.std.proofs.lemmas.List.{append-nil}
use Rattle.std.proofs.lemmas.Bool.{cases_Bool}
use Rattle.std.proofs.lemmas.List.Elements.{All-from_recursion, filter-append, recursion_from_All}
use Rattle.std.specs.Prelude.{All, filter}
use Rattle.std.specs.List.{AllByRecursion}

module _ {A : Type 0} (P : A → Type 0) (test : A → Bool) where
  -- the same of a list item by item
  passing : (items : List A) → AllByRecursion (λ a. test a ≡ true → P a) items → AllByRecursion P (filter test items)
  passing [] h = tt
  passing (a ∷ items) h = elim (cases_Bool (test a)) [
    | inl passes ↦ rw passes (h.0 passes, passing items h.1)
    | inr fails ↦ rw fails (passing items h.1)
  ]

  -- and back
  all_of : (items : List A) → AllByRecursion P (filter test items) → AllByRecursion (λ a. test a ≡ true → P a) items
  all_of [] h = tt
  all_of (a ∷ items) h = elim (cases_Bool (test a)) [
    | inl passes ↦ (let parts = rw passes at h in (λ _. parts.0, all_of items parts.1))
    | inr fails ↦ (let rest = rw fails at h in (λ e. absurd (let f = fails in cc), all_of items rest))
  ]

  -- what holds of each item where it passes holds of those that pass
  pub All-filter_where : (items : List A) → All (λ a. test a ≡ true → P a) items → All P (filter test items)
  All-filter_where items h = All-from_recursion P (filter test items)
      (passing items (recursion_from_All (λ a. test a ≡ true → P a) items h))

  -- what holds of those that pass holds of each item where it passes
  pub All_where-filter : (items : List A) → All P (filter test items) → All (λ a. test a ≡ true → P a) items
  All_where-filter items h = All-from_recursion (λ a. test a ≡ true → P a) items
      (all_of items (recursion_from_All P (filter test items) h))

-- where all pass, all are left
all_pass : {A : Type 0} (test : A → Bool) (items : List A) → AllByRecursion (λ a. test a ≡ true) items
    → filter test items ≡ items
all_pass test [] h = refl
all_pass test (a ∷ items) h = rw h.0 (ap (λ l. a ∷ l) (all_pass test items h.1))

-- where all items pass, the filter leaves the list as it is
pub filter-all : {A : Type 0} (test : A → Bool) (items : List A) → All (λ a. test a ≡ true) items → filter test items
    ≡ items
filter-all test items h = all_pass test items (recursion_from_All (λ a. test a ≡ true) items h)

module _ {A : Type 0} (test : A → Bool) (items : List A) (k : ℕ) (d : A) (within : k < length items) where
  -- one item more adds what the filter leaves of it
  filter-take : filter test (take (k + 1) items) ≡ filter test (take k items) ++ filter test (get_or items k d ∷ [])
  filter-take = rw (add-one, take-suc items k d within) (filter-append test (take k items) (get_or items k d ∷ []))

  -- one item more that passes stands after those before it
  pub filter-take-passes : test (get_or items k d) ≡ true → filter test (take (k + 1) items)
      ≡ filter test (take k items) ++ get_or items k d ∷ []
  filter-take-passes passes = filter-take ∙ rw passes refl

  -- one that fails does not
  pub filter-take-fails : test (get_or items k d) ≡ false → filter test (take (k + 1) items)
      ≡ filter test (take k items)
  filter-take-fails fails = filter-take ∙ rw fails (append-nil (filter test (take k items)))

-- a test fails where one that it implies fails
pub fails_with : (test implied : Bool) → (test ≡ true → implied ≡ true) → implied ≡ false → test ≡ false
fails_with true implied implies fails = absurd (let passes = implies refl in cc)
fails_with false implied implies fails = refl

-- Numbers in a row that pass a test, and ascending lists that hold every number with a property.
use Rattle.std.proofs.Common.{◌≡◌, ◌<◌, ◌≤◌, ◌+◌, ◌∙◌, ℕ, zero, suc, Bool, true, List, cond, [], ◌∷◌, ◌++◌, length}
use Rattle.std.proofs.Common.{get_or, filter, inl, inr, sym, ap, subst, arith}
use Rattle.std.specs.Prelude.{AllPairs}
use Rattle.std.specs.List.{Contains, range_with_len}
use Rattle.std.proofs.Math.Nat.{eq-or-lt_of_le}
use Rattle.std.proofs.lemmas.Bool.{cases_Bool, cond-true, cond-false}
use Rattle.std.proofs.lemmas.List.{get_or_default}
use Rattle.std.proofs.lemmas.List.FromFn.{length-range_with_len, get_or-range_with_len}
use Rattle.std.proofs.lemmas.List.Kept.{AllPairs-from_increasing, IsStrictlyIncreasing-filter}
use Rattle.desk_base.proofs.Lists.{range-rising}
use Rattle.fix_model.proofs.Hits.{least_from_none_below}
use Rattle.fix_model.proofs.Ranges.{filter-range-passes, filter-range-fails}

-- what stands in a list and passes stands among those that pass
pub Contains-filter : {A : Type 0} (test : A → Bool) (items : List A) (k : ℕ) (item : A) → k < length items
    → get_or items k item ≡ item → test item ≡ true → Contains (filter test items) item
Contains-filter test [] k item within is passes = absurd (omega arith)
Contains-filter test (first ∷ items) zero item within is passes =
    let here : test first ≡ true = ap test is ∙ passes in
    rw here (0, omega arith, is)
Contains-filter test (first ∷ items) (suc k) item within is passes =
    let (place, inside, stands) = Contains-filter test items k item (omega arith) is passes in
    elim (cases_Bool (test first)) [
      | inl here ↦ rw here (suc place, omega (arith, inside), stands)
      | inr fails ↦ rw fails (place, inside, stands)
    ]

module _ (test : ℕ → Bool) (count : ℕ) where
  -- the next number stands last where it passes
  pub filter-range-next : filter test (range_with_len 0 (count + 1))
      ≡ cond (test count) (filter test (range_with_len 0 count) ++ count ∷ []) (filter test (range_with_len 0 count))
  filter-range-next =
      let before = filter test (range_with_len 0 count) in
      elim (cases_Bool (test count)) [
        | inl passes ↦ filter-range-passes test count passes
            ∙ sym (cond-true (test count) (before ++ count ∷ []) before passes)
        | inr fails ↦ filter-range-fails test count fails
            ∙ sym (cond-false (test count) (before ++ count ∷ []) before fails)
      ]

  -- a number below the count that passes stands among those that do
  pub Contains-filter-range : (number : ℕ) → number < count → test number ≡ true
      → Contains (filter test (range_with_len 0 count)) number
  Contains-filter-range number below passes =
      let within : number < length (range_with_len 0 count) = omega (arith, length-range_with_len 0 count) in
      Contains-filter test (range_with_len 0 count) number number within
      (get_or-range_with_len 0 count number number below ∙ omega arith) passes

  -- those that pass ascend
  pub AllPairs-filter-range : AllPairs (λ one later. one < later) (filter test (range_with_len 0 count))
  AllPairs-filter-range = AllPairs-from_increasing (filter test (range_with_len 0 count))
      (IsStrictlyIncreasing-filter test (range_with_len 0 count) (range-rising count))

module _ (P : ℕ → Type 0) (rows : List ℕ) (complete : (row : ℕ) → P row → Contains rows row) where
  -- what all rows of the list have, all with the property have
  pub all_from_listed : (Q : ℕ → Type 0) → ((k : ℕ) → k < length rows → P (get_or rows k 0) → Q (get_or rows k 0))
      → (row : ℕ) → P row → Q row
  all_from_listed Q all row has =
      let (place, within, stands) = complete row has in
      let here : get_or rows place 0 ≡ row = get_or_default rows place 0 row within ∙ stands in
      subst Q here (all place within (subst P (sym here) has))

  -- where no row of the list has the property, none has
  pub none_from_listed : ((k : ℕ) → k < length rows → ¬ P (get_or rows k 0)) → (row : ℕ) → ¬ P row
  none_from_listed none row has = all_from_listed (λ _. ⊥) (λ k within listed. none k within listed) row has

  -- in an ascending list the first that has it is the least
  pub least_from_first : AllPairs (λ one later. one < later) rows → (place : ℕ) → place < length rows
      → ((k : ℕ) → k < place → ¬ P (get_or rows k 0)) → (row : ℕ) → P row → get_or rows place 0 ≤ row
  least_from_first ascends place within none =
      all_from_listed (λ row. get_or rows place 0 ≤ row)
      (λ k inside listed.
      let following : place ≤ k = least_from_none_below (λ (n : ℕ). P (get_or rows n 0)) place none k listed in
      elim (eq-or-lt_of_le following) [
        | inl here ↦ rw here (omega arith)
        | inr later ↦ (let below = ascends place k 0 later inside in omega arith)
      ])

-- Numbers in a row, and those of them that pass a test.
use Rattle.std.proofs.Common.{◌≡◌, ◌+◌, ℕ, zero, suc, Bool, true, false, [], ◌∷◌, ◌++◌, filter, map, refl, arith, ◌∙◌}
use Rattle.std.proofs.Common.{ap, add-one}
use Rattle.std.specs.Prelude.{sum_by}
use Rattle.std.specs.List.{range_with_len}
use Rattle.std.proofs.lemmas.List.{append-nil, map-append}
use Rattle.std.proofs.lemmas.List.Elements.{filter-append}
use Rattle.std.proofs.lemmas.List.Sums.{sum_by-append}

-- one number more stands after the others
pub range_with_len-suc : (from count : ℕ) → range_with_len from (suc count)
    ≡ range_with_len from count ++ (from + count) ∷ []
range_with_len-suc from zero = ap (λ n. n ∷ []) (omega arith)
range_with_len-suc from (suc count) =
    let place : from + 1 + count ≡ from + suc count = omega arith in
    ap (λ l. from ∷ l) (range_with_len-suc (from + 1) count ∙ ap (λ n. range_with_len (from + 1) count ++ n ∷ []) place)

-- so the images of the numbers below one more are one more
pub map-range-suc : {X : Type 0} (f : ℕ → X) (count : ℕ)
    → map f (range_with_len 0 (count + 1)) ≡ map f (range_with_len 0 count) ++ f count ∷ []
map-range-suc f count =
    let whole : range_with_len 0 (count + 1) ≡ range_with_len 0 count ++ count ∷ [] =
    rw add-one (range_with_len-suc 0 count ∙ ap (λ n. range_with_len 0 count ++ n ∷ []) (omega arith)) in
    ap (map f) whole ∙ map-append f (range_with_len 0 count) (count ∷ [])

module _ (test : ℕ → Bool) (count : ℕ) where
  -- one number more adds what the filter leaves of it
  split : filter test (range_with_len 0 (count + 1)) ≡ filter test (range_with_len 0 count) ++ filter test (count ∷ [])
  split =
      let whole : range_with_len 0 (count + 1) ≡ range_with_len 0 count ++ count ∷ [] = rw add-one
      (range_with_len-suc 0 count ∙ ap (λ n. range_with_len 0 count ++ n ∷ []) (omega arith)) in
      rw whole (filter-append test (range_with_len 0 count) (count ∷ []))

  -- a number that passes is added to those below it
  pub filter-range-passes : test count ≡ true → filter test (range_with_len 0 (count + 1))
      ≡ filter test (range_with_len 0 count) ++ count ∷ []
  filter-range-passes passes = split ∙ rw passes refl

  -- one that fails is not
  pub filter-range-fails : test count ≡ false → filter test (range_with_len 0 (count + 1))
      ≡ filter test (range_with_len 0 count)
  filter-range-fails fails = split ∙ rw fails (append-nil (filter test (range_with_len 0 count)))

  -- so a sum over those that pass grows by the new one, or stays
  pub sum_by-filter-range-passes : (weight : ℕ → ℕ) → test count ≡ true
      → sum_by weight (filter test (range_with_len 0 (count + 1)))
      ≡ sum_by weight (filter test (range_with_len 0 count)) + weight count
  sum_by-filter-range-passes weight passes =
      rw (filter-range-passes passes)
      (omega (arith, sum_by-append weight (filter test (range_with_len 0 count)) (count ∷ [])))

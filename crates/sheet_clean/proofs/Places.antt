-- The first number of a range that passes a test, and the first fault of columns one by one.
use Rattle.std.proofs.Common.{◌≡◌, ◌<◌, ◌≤◌, ◌+◌, ℕ, List, [], ◌∷◌, ◌++◌, Bool, true, false, get_or, take}
use Rattle.std.proofs.Common.{sym, ap, ◌∙◌, arith, inl, inr, zero-add}
use Rattle.std.proofs.Math.Nat.{eq-or-lt_of_le}
use Rattle.std.specs.Prelude.{Some, None, position}
use Rattle.std.specs.List.{range_with_len}
use Rattle.std.specs.Option.{option_or}
use Rattle.std.proofs.lemmas.List.{take_all}
use Rattle.std.proofs.lemmas.List.FromFn.{get_or-range_with_len, length-range_with_len}
use Rattle.fix_model.proofs.Twins.{position-none, position-some}
use Rattle.sheet_clean.specs.declared.setting.Setting.{Setting}
use Rattle.sheet_clean.specs.Header.{column_fault, columns_fault}

-- the numbers of a range are all of it
range-whole : (count : ℕ) → take count (range_with_len 0 count) ≡ range_with_len 0 count
range-whole count = take_all count (range_with_len 0 count) (omega (arith, length-range_with_len 0 count))

-- a test of the numbers of a range is a test of its items
tested : (test : ℕ → Bool) (count place : ℕ) (passes : Bool) → place < count → test place ≡ passes
    → test (get_or (range_with_len 0 count) place 0) ≡ passes
tested test count place passes within is = ap test (get_or-range_with_len 0 count place 0 within ∙ zero-add place) ∙ is

-- the first number that passes
pub first-of-range : (test : ℕ → Bool) (count place : ℕ) → place < count
    → ((before : ℕ) → before < place → test before ≡ false) → test place ≡ true
    → position test (range_with_len 0 count) ≡ Some place
first-of-range test count place within none passes =
    ap (position test) (sym (range-whole count))
    ∙ position-some test (range_with_len 0 count) count place 0 (omega (arith, length-range_with_len 0 count)) within
    (λ before less. tested test count before false (omega (arith, less, within)) (none before less))
    (tested test count place true within passes)

-- no number passes
pub none-of-range : (test : ℕ → Bool) (count : ℕ) → ((before : ℕ) → before < count → test before ≡ false)
    → position test (range_with_len 0 count) ≡ None
none-of-range test count none =
    ap (position test) (sym (range-whole count))
    ∙ position-none test (range_with_len 0 count) count 0 (omega (arith, length-range_with_len 0 count))
    (λ before less. tested test count before false less (none before less))

-- what holds of all numbers before the next holds of those before it and of it
pub before-next : (test : ℕ → Bool) (place : ℕ) → ((before : ℕ) → before < place → test before ≡ false)
    → test place ≡ false → (before : ℕ) → before < place + 1 → test before ≡ false
before-next test place none here before less =
    let up_to : before ≤ place = omega (arith, less) in
    elim (eq-or-lt_of_le up_to) [
      | inl same ↦ rw same here
      | inr lower ↦ none before lower
    ]

-- and where it has none
pub columns_fault-next : (setting : Setting) (earlier later : List (List ℕ)) (column : List ℕ)
    → column_fault setting earlier column ≡ None
    → columns_fault setting earlier (column ∷ later) ≡ columns_fault setting (earlier ++ column ∷ []) later
columns_fault-next setting earlier later column here =
    ap (λ found. option_or found (columns_fault setting (earlier ++ column ∷ []) later)) here

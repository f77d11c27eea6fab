-- The first row that is not what it has to be.
use Rattle.std.proofs.Common.{◌≡◌, ℕ, ◌+◌, ◌<◌, ◌≤◌, Bool, true, List, length, get_or, Some, sym, subst, ap, ◌∙◌, inl}
use Rattle.std.proofs.Common.{inr, arith}
use Rattle.std.specs.Prelude.{slice_get, ◌↔◌, IsTrue}
use Rattle.std.proofs.lemmas.Option.{same_Some, slice_get-get_or, slice_get_within}
use Rattle.std.proofs.lemmas.Bool.{cases_lt}
use Rattle.desk_valid.specs.FirstDamaged.{EachBefore}
use Rattle.desk_valid.specs.Valid.{EachAt}

-- the item that is read at a place stands there
pub slice_get-read : {T : Type 0} {rows items : List T} {place : ℕ} {row : T} → items ≡ rows → place < length items
    → row ≡ get_or items place row → slice_get rows place ≡ Some row
slice_get-read {T} {rows} {items} {place} {row} same within is =
    ap (λ (list : List T). slice_get list place) (sym same) ∙ slice_get-get_or items place row within ∙ ap Some (sym is)

-- one good row more
pub EachBefore-more : {T : Type 0} {rows items : List T} {place : ℕ} {row : T} {test : Bool} (IsGood : ℕ → T → Type 0)
    → items ≡ rows → place < length items → row ≡ get_or items place row → EachBefore rows IsGood place
    → (IsTrue test ↔ IsGood place row) → test ≡ true → EachBefore rows IsGood (place + 1)
EachBefore-more {T} {rows} {items} {place} {row} {test} IsGood same within is before decides passed earlier one below
    stands =
    elim (cases_lt earlier place) [
      | inl less ↦ before earlier one less stands
      | inr least ↦
          let here : earlier ≡ place = omega arith in
          let found : one ≡ row = same_Some one row (sym stands ∙ ap (slice_get rows) here ∙ slice_get-read same
          within is) in
          let good : IsGood place row = decides.0 passed in
          let GoodAt : ℕ → Type 0 = λ n. IsGood n row in
          let Good : T → Type 0 = λ r. IsGood earlier r in
          subst Good (sym found) (subst GoodAt (sym here) good)
    ]

-- each row is good where each before the end is
pub EachAt-from_before : {T : Type 0} {rows items : List T} {end : ℕ} (IsGood : ℕ → T → Type 0) → items ≡ rows
    → length items ≤ end → EachBefore rows IsGood end → EachAt rows IsGood
EachAt-from_before {T} {rows} {items} {end} IsGood same enough before place row stands =
    let within : place < length rows = slice_get_within rows place row stands in
    let long : length items ≡ length rows = ap length same in
    before place row (omega arith) stands

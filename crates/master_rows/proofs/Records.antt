-- The fields of a record, one by one, and what they hold.
use Rattle.std.proofs.Common.{◌≡◌, ℕ, zero, suc, ◌+◌, ◌<◌, Bool, true, false, List, [], ◌∷◌, ◌++◌, Bor, length}
use Rattle.std.proofs.Common.{get_or, take}
use Rattle.std.proofs.Common.{drop, refl, ap, arith, inl, inr}
use Rattle.std.specs.Prelude.{Some, None}
use Rattle.std.specs.List.{list_all}
use Rattle.std.specs.Str.{is_utf8}
use Rattle.std.proofs.Math.ListN.{get_or-map}
use Rattle.std.proofs.lemmas.Bool.{and_from, and_parts, cases_Bool}
use Rattle.std.proofs.lemmas.List.{length-map}
use Rattle.std.proofs.lemmas.List.Folds.{list_all_at, list_all_more}
use Rattle.csv.specs.Records.{field_at}
use Rattle.desk_base.specs.Texts.{bytes_of}

-- the front of the fields grows by the next of them
pub take-field_at : (fields : List (List ℕ)) (place : ℕ) (field : List ℕ) → field_at fields place ≡ Some field
    → take (suc place) fields ≡ take place fields ++ field ∷ []
unfolding field_at
take-field_at [] place field h = absurd cc
take-field_at (x ∷ rest) zero field h = cc
take-field_at (x ∷ rest) (suc place) field h = ap (λ l. x ∷ l) (take-field_at rest place field h)

-- each place has a field
pub field_at-some : (fields : List (List ℕ)) (place : ℕ) → place < length fields → field_at fields place ≡ None → ⊥
unfolding field_at
field_at-some [] place within none = absurd (omega arith)
field_at-some (x ∷ rest) zero within none = absurd cc
field_at-some (x ∷ rest) (suc place) within none = field_at-some rest place (omega arith) none

-- what is left of the fields begins with the next of them
pub drop-field_at : (fields : List (List ℕ)) (place : ℕ) (field : List ℕ) → field_at fields place ≡ Some field
    → drop place fields ≡ field ∷ drop (suc place) fields
unfolding field_at
drop-field_at [] place field h = absurd cc
drop-field_at (x ∷ rest) zero field h = cc
drop-field_at (x ∷ rest) (suc place) field h = drop-field_at rest place field h

-- where those before a place pass a test and the field there does, so do those up to it
pub list_all-field_at : (test : List ℕ → Bool) (fields : List (List ℕ)) (place : ℕ) (field : List ℕ)
    → field_at fields place ≡ Some field → list_all test (take place fields) ≡ true → test field ≡ true
    → list_all test (take (suc place) fields) ≡ true
unfolding field_at
list_all-field_at test [] place field h before passes = absurd cc
list_all-field_at test (x ∷ rest) zero field h before passes = let is : x ≡ field = cc in rw (is, passes) refl
list_all-field_at test (x ∷ rest) (suc place) field h before passes =
    let parts = and_parts (test x) (list_all test (take place rest)) before in
    and_from _ _ parts.0 (list_all-field_at test rest place field h parts.1 passes)

-- where a field fails a test, not all pass it
pub list_all-fails_at : (test : List ℕ → Bool) (fields : List (List ℕ)) (place : ℕ) (field : List ℕ)
    → field_at fields place ≡ Some field → test field ≡ false → list_all test fields ≡ false
unfolding field_at
list_all-fails_at test [] place field h fails = absurd cc
list_all-fails_at test (x ∷ rest) zero field h fails = let is : x ≡ field = cc in rw (is, fails) refl
list_all-fails_at test (x ∷ rest) (suc place) field h fails =
    let later = list_all-fails_at test rest place field h fails in
    elim (cases_Bool (test x)) [ inl passes ↦ rw (passes, later) refl | inr here ↦ rw here refl ]

-- where a field is no UTF-8, not all are
pub list_all-other : (fields : List (Bor (List ℕ))) (place : ℕ) (d : Bor (List ℕ)) → place < length fields
    → is_utf8 (get_or fields place d).now ≡ false → list_all is_utf8 (bytes_of fields) ≡ false
list_all-other fields place d within other =
    let inside : place < length (bytes_of fields) = rw length-map within in
    list_all_at is_utf8 (bytes_of fields) place d.now inside
    (rw (get_or-map (λ (field : Bor (List ℕ)). field.now) fields place d) other)

-- where the fields before a place are UTF-8 and the field there is, so are those up to it
pub list_all-next : (fields : List (Bor (List ℕ))) (place : ℕ) (d : Bor (List ℕ)) → place < length fields
    → list_all is_utf8 (take place (bytes_of fields)) ≡ true → is_utf8 (get_or fields place d).now ≡ true
    → list_all is_utf8 (take (place + 1) (bytes_of fields)) ≡ true
list_all-next fields place d within before utf8 =
    let inside : place < length (bytes_of fields) = rw length-map within in
    rw (
      list_all_more is_utf8 (bytes_of fields) place d.now inside,
      before,
      get_or-map (λ (field : Bor (List ℕ)). field.now) fields place d,
    ) utf8

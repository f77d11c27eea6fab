-- Lines in the order of their keys.
use Rattle.std.proofs.Common.{◌≡◌, ◌⊎◌, inl, inr, ℕ, Bool, true, false, ◌&&◌, ◌||◌, ◌==◌, List, [], ◌∷◌, ◌++◌, refl}
use Rattle.std.proofs.Common.{sym, ap, ◌∙◌, arith}
use Rattle.std.specs.Prelude.{IsPermutation, nat_lt}
use Rattle.std.specs.List.{AllByRecursion}
use Rattle.std.proofs.lemmas.Bool.{cases_Bool}
use Rattle.std.proofs.lemmas.Bool.Decides.{nat_tests}
use Rattle.std.proofs.lemmas.List.Sorted.{IsPermutation-cons, IsPermutation-refl, IsPermutation-trans}
use Rattle.desk_packing.specs.Lines.{AreByKey, Line, comes_before, same_key}
use Rattle.desk_packing.specs.Reading.{by_key, insert_line}
use Rattle.desk_packing.proofs.Permutations.{along, each-append, each-turned, each-weaker, turn}

-- a key below another
abbrev below : ℕ → ℕ → ℕ → ℕ → ℕ → ℕ → Bool
below a b c x y z = nat_lt a x || ((a == x) && (nat_lt b y || ((b == y) && nat_lt c z)))

abbrev equal_keys : ℕ → ℕ → ℕ → ℕ → ℕ → ℕ → Bool
equal_keys a b c x y z = (a == x) && ((b == y) && (c == z))

below-not : (a b c x y z : ℕ) → below a b c x y z ≡ true → below x y z a b c ≡ false
below-not a b c x y z before = grind (arith, nat_tests)

below-onward : (a b c x y z u v w : ℕ) → below a b c x y z ≡ true → below x y z u v w ≡ true → below a b c u v w ≡ true
below-onward a b c x y z u v w one other = grind (arith, nat_tests)

below-apart : (a b c x y z : ℕ) → below a b c x y z ≡ true → equal_keys a b c x y z ≡ false
below-apart a b c x y z before = grind (arith, nat_tests)

apart-below : (a b c x y z : ℕ) → equal_keys a b c x y z ≡ false
    → (below a b c x y z ≡ true) ⊎ (below x y z a b c ≡ true)
apart-below a b c x y z apart = grind (arith, nat_tests)

equal_keys-turned : (a b c x y z : ℕ) → equal_keys a b c x y z ≡ equal_keys x y z a b c
equal_keys-turned a b c x y z = grind (arith, nat_tests)

pub comes_before-not : (one other : Line) → comes_before one other ≡ true → comes_before other one ≡ false
comes_before-not one other = below-not one.kind one.owner one.place other.kind other.owner other.place

pub comes_before-onward : (one next last : Line) → comes_before one next ≡ true → comes_before next last ≡ true
    → comes_before one last ≡ true
comes_before-onward one next last = below-onward one.kind one.owner one.place next.kind next.owner next.place
    last.kind last.owner last.place

pub comes_before-apart : (one other : Line) → comes_before one other ≡ true → same_key one other ≡ false
comes_before-apart one other = below-apart one.kind one.owner one.place other.kind other.owner other.place

pub apart-comes_before : (one other : Line) → same_key one other ≡ false
    → (comes_before one other ≡ true) ⊎ (comes_before other one ≡ true)
apart-comes_before one other = apart-below one.kind one.owner one.place other.kind other.owner other.place

pub same_key-turned : (one other : Line) → same_key one other ≡ same_key other one
same_key-turned one other = equal_keys-turned one.kind one.owner one.place other.kind other.owner other.place

-- no two lines have one key
abbrev pub AreApart : List Line → Type 0
AreApart [] = Unit {0}
AreApart (line ∷ lines) = AllByRecursion (λ other. same_key line other ≡ false) lines × AreApart lines

pub AreApart-from_order : (lines : List Line) → AreByKey lines → AreApart lines
AreApart-from_order [] order = tt
AreApart-from_order (line ∷ lines) order = (
  each-weaker (λ other. comes_before line other ≡ true) (λ other. same_key line other ≡ false)
      (comes_before-apart line) lines order.0,
  AreApart-from_order lines order.1,
)

-- the order of two insertions of lines with different keys
insert-insert : (x y : Line) (lines : List Line) → comes_before x y ≡ true
    → insert_line x (insert_line y lines) ≡ insert_line y (insert_line x lines)
insert-insert x y [] before =
    let not_before = comes_before-not x y before in
    simp (before, not_before) refl
insert-insert x y (z ∷ lines) before =
    let not_before = comes_before-not x y before in
    elim (cases_Bool (comes_before y z)) [
      | inl first ↦
          let firsts = comes_before-onward x y z before first in
          simp (first, firsts, before, not_before) refl
      | inr later ↦ elim (cases_Bool (comes_before x z)) [
        | inl first ↦ simp (first, later, not_before) refl
        | inr later_too ↦ simp (later, later_too) (ap (λ following. z ∷ following) (insert-insert x y lines before))
      ]
    ]

insert-either : (x y : Line) (lines : List Line) → same_key x y ≡ false
    → insert_line x (insert_line y lines) ≡ insert_line y (insert_line x lines)
insert-either x y lines apart = elim (apart-comes_before x y apart) [
  | inl before ↦ insert-insert x y lines before
  | inr following ↦ sym (insert-insert y x lines following)
]

insert-IsPermutation : (line : Line) (lines : List Line) → IsPermutation (line ∷ lines) (insert_line line lines)
insert-IsPermutation line [] = IsPermutation-refl (line ∷ [])
insert-IsPermutation line (next ∷ lines) = elim (cases_Bool (comes_before line next)) [
  | inl before ↦ rw before (IsPermutation-refl (line ∷ (next ∷ lines)))
  | inr following ↦ rw following (IsPermutation-trans _ (next ∷ (line ∷ lines)) _ (turn line next lines)
      (IsPermutation-cons next _ _ (insert-IsPermutation line lines)))
]

pub by_key-IsPermutation : (lines : List Line) → IsPermutation lines (by_key lines)
by_key-IsPermutation [] = IsPermutation-refl []
by_key-IsPermutation (line ∷ lines) = IsPermutation-trans _ (line ∷ by_key lines) _
    (IsPermutation-cons line _ _ (by_key-IsPermutation lines)) (insert-IsPermutation line (by_key lines))

insert-first : (line : Line) (lines : List Line) → AllByRecursion (λ other. comes_before line other ≡ true) lines
    → insert_line line lines ≡ line ∷ lines
insert-first line [] first = refl
insert-first line (next ∷ lines) first = rw first.0 refl

-- lines in the order of their keys stay as they are
pub by_key-same : (lines : List Line) → AreByKey lines → by_key lines ≡ lines
by_key-same [] order = refl
by_key-same (line ∷ lines) order = rw (by_key-same lines order.1) (insert-first line lines order.0)

-- what lines with different keys keep in another order: that they are so, and what they are in the order of the keys
pub record StaySo (xs ys : List Line) : Type 0 where
  pub apart : AreApart ys
  pub order : by_key xs ≡ by_key ys
  pub keys : (line : Line) → AllByRecursion (λ other. same_key line other ≡ false) xs
      → AllByRecursion (λ other. same_key line other ≡ false) ys

stay-under : (x : Line) (xs ys : List Line) → (AreApart xs → StaySo xs ys) → AreApart (x ∷ xs)
    → StaySo (x ∷ xs) (x ∷ ys)
stay-under x xs ys before apart =
    let so = before apart.1 in
    record {
      apart = (so.keys x apart.0, so.apart);
      order = ap (insert_line x) so.order;
      keys = λ line each. (each.0, so.keys line each.1);
    }

stay-turned : (x y : Line) (xs : List Line) → AreApart (x ∷ y ∷ xs) → StaySo (x ∷ y ∷ xs) (y ∷ x ∷ xs)
stay-turned x y xs ((heads, first), (next, others)) = record {
  apart = ((same_key-turned y x ∙ heads, next), (first, others));
  order = insert-either x y (by_key xs) heads;
  keys = λ line. each-turned (λ other. same_key line other ≡ false) x y xs;
}

pub by_key-permutation : (xs ys : List Line) → IsPermutation xs ys → AreApart xs → StaySo xs ys
by_key-permutation = along (λ xs ys. AreApart xs → StaySo xs ys)
    (λ xs apart. record { apart = apart; order = refl; keys = λ line each. each })
    stay-under
    stay-turned
    (λ xs ys zs first then apart.
    let one = first apart in
    let other = then one.apart in
    record {
      apart = other.apart;
      order = one.order ∙ other.order;
      keys = λ line each. other.keys line (one.keys line each);
    })

-- lists in order, one after the other
pub AreByKey-append : (P Q : Line → Type 0) → ((one other : Line) → P one → Q other → comes_before one other ≡ true)
    → (xs ys : List Line) → AllByRecursion P xs → AllByRecursion Q ys → AreByKey xs → AreByKey ys → AreByKey (xs ++ ys)
AreByKey-append P Q before [] ys ps qs order more = more
AreByKey-append P Q before (x ∷ xs) ys ps qs order more = (
  each-append (λ other. comes_before x other ≡ true) xs ys order.0
      (each-weaker Q (λ other. comes_before x other ≡ true) (λ other holds. before x other ps.0 holds) ys qs),
  AreByKey-append P Q before xs ys ps.1 qs order.1 more,
)

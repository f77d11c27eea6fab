-- Lists that are compared item by item, and the first item that passes.
use Rattle.std.proofs.Common.{◌≡◌, ◌<◌, ◌≤◌, ◌&&◌, ℕ, zero, suc, Bool, true, false, not, List, [], ◌∷◌, length, take}
use Rattle.std.proofs.Common.{get_or, refl, arith, length-take}
use Rattle.std.specs.Prelude.{Option, Some, None, is_some, is_none, position, nat_lt}
use Rattle.std.specs.List.{position_or_len}
use Rattle.std.specs.Cmp.Lexicographic.{pointwise}
use Rattle.std.proofs.lemmas.List.{get_or-take}
use Rattle.std.proofs.lemmas.List.Sums.{position_or_len_is}
use Rattle.std.proofs.lemmas.Bool.Decides.{nat_tests}

module _ {A B : Type 0} (test : A → B → Bool) where
  -- two lists of one length whose items pass in pairs pass the test item by item
  pub pointwise-all : (xs : List A) (ys : List B) → length xs ≡ length ys
      → ((k : ℕ) (d : A) (e : B) → k < length xs → test (get_or xs k d) (get_or ys k e) ≡ true) → pointwise test xs ys
      ≡ true
  pointwise-all [] [] even all = refl
  pointwise-all [] (y ∷ ys) even all = absurd (omega arith)
  pointwise-all (x ∷ xs) [] even all = absurd (omega arith)
  pointwise-all (x ∷ xs) (y ∷ ys) even all =
      let here : test x y ≡ true = all 0 x y (omega arith) in
      rw here (pointwise-all xs ys (omega arith) (λ k d e h. all (suc k) d e (omega arith)))

  -- where one pair fails, the lists do
  pub pointwise-fails : (xs : List A) (ys : List B) (k : ℕ) (d : A) (e : B) → k < length xs → k < length ys
      → test (get_or xs k d) (get_or ys k e) ≡ false → pointwise test xs ys ≡ false
  pointwise-fails [] ys k d e h g fails = absurd (omega arith)
  pointwise-fails (x ∷ xs) [] k d e h g fails = absurd (omega arith)
  pointwise-fails (x ∷ xs) (y ∷ ys) zero d e h g fails = rw fails refl
  pointwise-fails (x ∷ xs) (y ∷ ys) (suc k) d e h g fails = both (test x y) (pointwise test xs ys)
      (pointwise-fails xs ys k d e (omega arith) (omega arith) fails)
    where
      both : (s t : Bool) → t ≡ false → (s && t) ≡ false
      both true t fails = fails
      both false t fails = refl

module _ {A : Type 0} (test : A → Bool) (items : List A) where
  -- the first item that passes among the first ones has its place
  first_place : (n i : ℕ) (d : A) → n ≤ length items → i ≤ n → ((k : ℕ) → k < i → test (get_or items k d) ≡ false)
      → (i < n → test (get_or items i d) ≡ true) → position_or_len test (take n items) ≡ i
  first_place n i d within up_to fails passes =
      let size : length (take n items) ≡ n = omega (arith, length-take n items) in
      position_or_len_is test (take n items) i d (omega arith)
      (λ k h. let inside : k < n = omega arith in rw (get_or-take n items k d inside) (fails k h))
      (λ h. let inside : i < n = omega arith in rw (get_or-take n items i d inside) (passes inside))

  -- none of the first items passes
  pub position-none : (n : ℕ) (d : A) → n ≤ length items → ((k : ℕ) → k < n → test (get_or items k d) ≡ false)
      → position test (take n items) ≡ None
  position-none n d within fails =
      let size : length (take n items) ≡ n = omega (arith, length-take n items) in
      let place : position_or_len test (take n items)
      ≡ n = first_place n n d within (omega arith) fails (λ h. absurd (omega arith)) in
      let less : nat_lt n n ≡ false = grind (arith, nat_tests) in
      rw (place, size, less) refl

  -- the first that passes
  pub position-some : (n i : ℕ) (d : A) → n ≤ length items → i < n
      → ((k : ℕ) → k < i → test (get_or items k d) ≡ false) → test (get_or items i d) ≡ true
      → position test (take n items) ≡ Some i
  position-some n i d within below fails passes =
      let size : length (take n items) ≡ n = omega (arith, length-take n items) in
      let place : position_or_len test (take n items)
      ≡ i = first_place n i d within (omega arith) fails (λ h. passes) in
      let less : nat_lt i n ≡ true = grind (arith, nat_tests) in
      rw (place, size, less) refl

-- what a test for nothing tells by its negation
pub is_none-negated : {A : Type 0} (found : Option A) (answer : Bool) → is_some found ≡ not answer → answer
    ≡ is_none found
is_none-negated None true told = refl
is_none-negated None false told = cc
is_none-negated (Some item) true told = cc
is_none-negated (Some item) false told = refl

-- Lists whose items all differ by a key.
use Rattle.std.proofs.Common.{◌≡◌, ◌≢◌, ◌<◌, ◌≤◌, ◌+◌, ◌-◌, ◌∙◌, ℕ, List, take, drop, length, get_or, ap, sym, arith}
use Rattle.std.proofs.Common.{inl, inr, length-drop, Bool, Decides, true}
use Rattle.std.specs.List.{list_any}
use Rattle.std.specs.Prelude.{AllPairs, Any}
use Rattle.std.proofs.Math.Nat.{eq-or-lt_of_le}
use Rattle.std.proofs.lemmas.List.{take_all, get_or-drop, get_or_read, get_or_default}
use Rattle.std.proofs.lemmas.List.Folds.{Any-from_list_any, list_any-from_Any}

-- the items after a place
abbrev pub following : {A : Type 0} → List A → ℕ → List A
following items place = take (length items - (place + 1)) (drop (place + 1) items)

-- the items before a place differ by the key from all after them
abbrev pub DifferBefore : {A B : Type 0} → (A → B) → List A → ℕ → Type 0
DifferBefore {A} key items place =
    (i j : ℕ) (d : A) → i < place → i < j → j < length items → key (get_or items i d) ≢ key (get_or items j d)

module _ {A B : Type 0} (key : A → B) (items : List A) (place : ℕ) (item : A)
    (within : place < length items) (is : item ≡ get_or items place item) where
  -- what stands after a place is there whole
  following_whole : following items place ≡ drop (place + 1) items
  following_whole = take_all _ _ (omega (arith, length-drop (place + 1) items))

  -- an item whose key stands after it too is one of two with that key
  pub repeated : Any (λ later. key item ≡ key later) (following items place)
      → ¬ AllPairs (λ one later. key one ≢ key later) items
  repeated found distinct =
      let (further, later, below, stands, same) = rw following_whole at found in
      let seat : ℕ = place + 1 + further in
      let inside : seat < length items = omega (arith, length-drop (place + 1) items, below) in
      let here : item ≡ get_or items place later = get_or_read items place item within is later in
      let there : get_or items seat later ≡ later = sym (get_or-drop (place + 1) items further later) ∙ stands in
      distinct place seat later (omega arith) inside (ap key (sym here) ∙ same ∙ ap key (sym there))

  -- an item whose key doesn't stand after it differs from all that do
  pub differs : ¬ Any (λ later. key item ≡ key later) (following items place)
      → (j : ℕ) (d : A) → place < j → j < length items → key (get_or items place d) ≢ key (get_or items j d)
  differs none j d later inside same =
      let far : ℕ = j - (place + 1) in
      let x : A = get_or items j d in
      let seat : place + 1 + far ≡ j = omega arith in
      let there : get_or (drop (place + 1) items) far x ≡ x =
      get_or-drop (place + 1) items far x ∙ ap (λ k. get_or items k x) seat ∙ get_or_default items j x d inside in
      let found : Any (λ other. key item ≡ key other) (drop (place + 1) items) = (
        far,
        x,
        omega (arith, length-drop (place + 1) items),
        there,
        ap key (get_or_read items place item within is d)
            ∙ same,
      ) in
      none (rw following_whole found)

  -- where the items before a place differ from all after them, and the item there too, so do the items up to it
  pub DifferBefore-next : DifferBefore key items place → ¬ Any (λ later. key item ≡ key later) (following items place)
      → DifferBefore key items (place + 1)
  DifferBefore-next before none i j d below following inside =
      let up_to : i ≤ place = omega arith in
      elim (eq-or-lt_of_le up_to) [
        | inr earlier ↦ before i j d earlier following inside
        | inl here ↦ let later : place < j = omega arith in rw here (differs none j d later inside)
      ]

-- a test that decides whether two items are equal
module _ {A : Type 0} (test : A → A → Bool) (tells : (one other : A) → Decides (test one other) (one ≡ other))
    (items : List A) (item : A) where
  -- the item that the test finds is there
  pub Any-list_any : list_any (test item) items ≡ true → Any (λ other. item ≡ other) items
  Any-list_any found =
      let (place, other, within, there, same) = Any-from_list_any (test item) items found in
      (place, other, within, there, (tells item other).0 same)

  -- the test finds an item that is there
  pub list_any-Any : Any (λ other. item ≡ other) items → list_any (test item) items ≡ true
  list_any-Any (place, other, within, there, same) =
      list_any-from_Any (test item) items (place, other, within, there, (tells item other).1 same)

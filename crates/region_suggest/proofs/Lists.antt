-- What lists contain, and flags that are set in them.
use Rattle.std.proofs.Common.{◌≡◌, ◌≢◌, ◌⊎◌, ◌<◌, ◌+◌, ◌∙◌, ℕ, zero, suc, Bool, true, false, List, [], ◌∷◌, ◌++◌}
use Rattle.std.proofs.Common.{length, get_or, map, set, replicate, eqb, eqb-true, inl, inr, sym, ap, arith}
use Rattle.std.specs.Prelude.{◌↔◌, All, Contains}
use Rattle.std.proofs.lemmas.Bool.{cases_Bool, eqb-false}
use Rattle.std.proofs.Math.ListN.{get_or-append}
use Rattle.std.proofs.Math.Seq.{get_or-append_seam}
use Rattle.std.proofs.lemmas.List.{get_or-map, get_or-set_same, get_or-set_other, get_or_default, length-map}
use Rattle.std.proofs.lemmas.List.{replicate-append-replicate}
use Rattle.std.proofs.lemmas.List.Elements.{Contains-append_left, Contains-append_right, Contains-append_cases}
use Rattle.fix_engine.specs.Flags.{IsFlagged}
use Rattle.fix_engine.proofs.Lists.{Contains-following, Contains-cases, Contains-first}

-- the item at a place is in the list
pub Contains-at : {A : Type 0} (xs : List A) (k : ℕ) (d : A) → k < length xs → Contains xs (get_or xs k d)
Contains-at [] k d within = absurd (omega (arith, within))
Contains-at (x ∷ xs) zero d within = Contains-first x xs
Contains-at (x ∷ xs) (suc k) d within =
    Contains-following x (get_or xs k d) xs (Contains-at xs k d (omega (arith, within)))

-- the image of an item is among the images
pub Contains-map : {A B : Type 0} (f : A → B) (xs : List A) (k : ℕ) (d : A) → k < length xs
    → Contains (map f xs) (f (get_or xs k d))
Contains-map f xs k d within = (k, rw length-map within, get_or-map f xs k d (f (get_or xs k d)) within)

-- a flag that is set is within the flags
pub IsFlagged-within : (flags : List Bool) (place : ℕ) → IsFlagged flags place → place < length flags
IsFlagged-within [] place set_there = absurd cc
IsFlagged-within (flag ∷ flags) zero set_there = omega arith
IsFlagged-within (flag ∷ flags) (suc place) set_there = omega (arith, IsFlagged-within flags place set_there)

-- a flag stays set where another is written, or this one is set
pub IsFlagged-set : (flags : List Bool) (place other : ℕ) → place < length flags → IsFlagged flags other
    → IsFlagged (set flags place true) other
IsFlagged-set flags place other within flagged = elim (cases_Bool (eqb other place)) [
  | inl same ↦ rw (eqb-true other place same) (get_or-set_same flags place true false within)
  | inr apart ↦ get_or-set_other flags place other true false (eqb-false other place apart) ∙ flagged
]

-- the flag that was written is the one that is read
pub IsFlagged-here : (flags : List Bool) (place : ℕ) → place < length flags → IsFlagged (set flags place true) place
IsFlagged-here flags place within = get_or-set_same flags place true false within

-- a flag that is set after one was set was set before, or is that one
pub IsFlagged-cases : (flags : List Bool) (place other : ℕ) → IsFlagged (set flags place true) other
    → (other ≡ place) ⊎ IsFlagged flags other
IsFlagged-cases flags place other flagged = elim (cases_Bool (eqb other place)) [
  | inl same ↦ inl (eqb-true other place same)
  | inr apart ↦ inr (sym (get_or-set_other flags place other true false (eqb-false other place apart)) ∙ flagged)
]

-- a flag that was read
pub flag-read : (flags : List Bool) (place at_place : ℕ) (read told : Bool) → place < length flags → at_place ≡ place
    → read ≡ get_or flags at_place read → read ≡ told → get_or flags place false ≡ told
flag-read flags place at_place read told within same is tells =
    get_or_default flags place false read within ∙ ap (λ n. get_or flags n read) (sym same) ∙ sym is ∙ tells

-- one copy more
pub replicate-push : {A : Type 0} (count : ℕ) (x : A) → replicate count x ++ x ∷ [] ≡ replicate (count + 1) x
replicate-push count x = replicate-append-replicate count 1 x

-- nothing is in the empty list
pub Contains-nil : {A : Type 0} (x : A) → Contains [] x → ⊥
Contains-nil x h = omega (arith, h.1)

-- a flag that is set is listed after those before it
pub listed-set : (flags : List Bool) (place : ℕ) (found longer : List ℕ) → IsFlagged flags place
    → ((other : ℕ) → Contains found other ↔ ((other < place) × IsFlagged flags other)) → longer ≡ found ++ place ∷ []
    → (other : ℕ) → Contains longer other ↔ ((other < place + 1) × IsFlagged flags other)
listed-set flags place found longer here so_far pushed other = (
  (λ h. elim (Contains-append_cases found (place ∷ []) other (rw pushed at h)) [
    | inl before ↦ let told = (so_far other).0 before in (omega (arith, told.0), told.1)
    | inr last ↦ elim (Contains-cases place other [] last) [
      | inl is ↦ (omega (arith, is), rw is here)
      | inr none ↦ absurd (Contains-nil other none)
    ]
  ]),
  λ h. elim (cases_Bool (eqb other place)) [
    | inl same ↦ rw (pushed, eqb-true other place same)
        (Contains-append_right found (place ∷ []) place (Contains-first place []))
    | inr differs ↦
        let apart : other ≢ place = eqb-false other place differs in
        rw pushed (Contains-append_left found (place ∷ []) other ((so_far other).1 (omega (arith, h.0, apart), h.1)))
  ],
)

-- and one that is not set is passed over
pub listed-clear : (flags : List Bool) (place : ℕ) (found : List ℕ) → (IsFlagged flags place → ⊥)
    → ((other : ℕ) → Contains found other ↔ ((other < place) × IsFlagged flags other))
    → (other : ℕ) → Contains found other ↔ ((other < place + 1) × IsFlagged flags other)
listed-clear flags place found clear so_far other = (
  (λ h. let told = (so_far other).0 h in (omega (arith, told.0), told.1)),
  λ h. elim (cases_Bool (eqb other place)) [
    | inl same ↦ absurd (clear (rw (eqb-true other place same) at h.1))
    | inr differs ↦
        let apart : other ≢ place = eqb-false other place differs in
        (so_far other).1 (omega (arith, h.0, apart), h.1)
  ],
)

-- what holds of the names of all items holds of each name
pub Contains-mapped : {A : Type 0} (name : A → ℕ) (P : ℕ → Type 0) (items : List A) (one : ℕ)
    → All (λ item. P (name item)) items
    → Contains (map name items) one → P one
Contains-mapped name P [] one all h = absurd (omega (arith, h.1))
Contains-mapped name P (item ∷ items) one all h = elim (Contains-cases (name item) one (map name items) h) [
  | inl is ↦ rw is (all zero item (omega arith))
  | inr following ↦ Contains-mapped name P items one (λ k d below. all (suc k) d (omega (arith, below))) following
]

-- what holds at each place of a list, and of one item more, holds at each place with it
pub each-push : {A : Type 0} (P : ℕ → A → Type 0) (items : List A) (last d : A)
    → ((place : ℕ) → place < length items → P place (get_or items place d)) → P (length items) last → (place : ℕ)
    → place < length items + 1 → P place (get_or (items ++ last ∷ []) place d)
each-push P items last d each new place within = elim (cases_Bool (eqb place (length items))) [
  | inl same ↦ rw (eqb-true place (length items) same, get_or-append_seam items last [] d) new
  | inr other ↦
      let apart = eqb-false place (length items) other in
      let before : place < length items = omega arith in
      rw (get_or-append items (last ∷ []) d place before) (each place before)
]

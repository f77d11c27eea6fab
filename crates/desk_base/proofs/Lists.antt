-- Items of lists: what stands at a place, what holds of each, and numbers in a row.
use Rattle.std.proofs.Common.{◌≡◌, ℕ, zero, suc, ◌+◌, ◌<◌, List, [], ◌∷◌, ◌++◌, length, get_or, map, set, Some, refl}
use Rattle.std.proofs.Common.{subst, arith}
use Rattle.std.specs.Prelude.{All, Any, slice_get}
use Rattle.std.specs.List.{AllByRecursion, range_with_len}
use Rattle.std.specs.List.Sorted.{IsStrictlyIncreasing}
use Rattle.std.proofs.lemmas.List.{get_or-map, get_or_default, length-map}
use Rattle.std.proofs.lemmas.List.FromFn.{get_or-range_with_len, length-range_with_len}

-- what holds of each item that was made holds of what each was made from
pub All-unmap : {A B : Type 0} (P : B → Type 0) (make : A → B) (items : List A) → All P (map make items)
    → All (λ item. P (make item)) items
All-unmap P make items all place past within =
    subst P (get_or-map make items place past (make past) within)
    (all place (make past) (omega (arith, within, length-map items make)))

-- something holds of some item where it holds of the item at a place
pub Any-at : {A : Type 0} (P : A → Type 0) (items : List A) (place : ℕ) (past : A) → place < length items
    → P (get_or items place past) → Any P items
Any-at P items place past within holds =
    (place, get_or items place past, within, get_or_default items place (get_or items place past) past within, holds)

-- what holds of all items, and of one more, holds of all with the one more at the end
pub AllByRecursion-push : {A : Type 0} (P : A → Type 0) (items : List A) (item : A) → AllByRecursion P items → P item
    → AllByRecursion P (items ++ item ∷ [])
AllByRecursion-push P [] item all last = (last, tt)
AllByRecursion-push P (first ∷ rest) item all last = (all.0, AllByRecursion-push P rest item all.1 last)

-- within a list an item stands
pub slice_get-there : {A : Type 0} (items : List A) (place : ℕ) → place < length items
    → (item : A) × (slice_get items place ≡ Some item)
slice_get-there [] place within = absurd (omega arith)
slice_get-there (first ∷ rest) zero within = (first, refl)
slice_get-there (first ∷ rest) (suc place) within = slice_get-there rest place (omega arith)

-- the item that replaces another stands at its place
pub slice_get-set_same : {A : Type 0} (items : List A) (place : ℕ) (item : A) → place < length items
    → slice_get (set items place item) place ≡ Some item
slice_get-set_same [] place item within = absurd (omega arith)
slice_get-set_same (first ∷ rest) zero item within = refl
slice_get-set_same (first ∷ rest) (suc place) item within = slice_get-set_same rest place item (omega arith)

-- an item stands where it stands whatever comes after the list
pub slice_get-front : {A : Type 0} (items rest : List A) (place : ℕ) (item : A) → slice_get items place ≡ Some item
    → slice_get (items ++ rest) place ≡ Some item
slice_get-front [] rest place item is = absurd cc
slice_get-front (first ∷ items) rest zero item is = is
slice_get-front (first ∷ items) rest (suc place) item is = slice_get-front items rest place item is

-- the item after a list stands at the place that is the list's length
pub slice_get-after : {A : Type 0} (items rest : List A) (item : A)
    → slice_get (items ++ item ∷ rest) (length items) ≡ Some item
slice_get-after [] rest item = refl
slice_get-after (first ∷ items) rest item = slice_get-after items rest item

-- so does the last item
pub slice_get-end : {A : Type 0} (items : List A) (item : A)
    → slice_get (items ++ item ∷ []) (length items) ≡ Some item
slice_get-end items item = slice_get-after items [] item

-- the numbers from 0 on ascend
pub range-rising : (count : ℕ) → IsStrictlyIncreasing (range_with_len 0 count)
range-rising count index within =
    let last : index + 1 < count = omega (arith, length-range_with_len 0 count) in
    omega (arith, get_or-range_with_len 0 count index 0 (omega arith), get_or-range_with_len 0 count (index + 1) 0 last)

-- they are below their count
pub range-below : (count : ℕ) → All (λ number. number < count) (range_with_len 0 count)
range-below count index past within =
    let below : index < count = omega (arith, length-range_with_len 0 count) in
    omega (arith, get_or-range_with_len 0 count index past below)

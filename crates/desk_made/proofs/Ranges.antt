-- What holds of all that is made of the numbers of a range.
use Rattle.std.proofs.Common.{ℕ, ◌+◌, ◌<◌, ◌≤◌, List, [], ◌∷◌, map, refl, arith}
use Rattle.std.specs.Prelude.{All, AllPairs}
use Rattle.std.specs.List.{AllByRecursion, range_with_len}
use Rattle.std.proofs.lemmas.List.Elements.{All-head, All-tail}
use Rattle.std.proofs.lemmas.List.FromFn.{get_or-map-range_with_len, length-map-range_with_len}

-- what holds of what is made of each number holds of all of it
pub All-range : {A : Type 0} (P : A → Type 0) (made : ℕ → A) (first count : ℕ)
    → ((number : ℕ) → first ≤ number → number < first + count → P (made number))
    → All P (map made (range_with_len first count))
All-range P made first count each place other within =
    let inside : place < count = rw (length-map-range_with_len made first count) at within in
    rw (get_or-map-range_with_len made first count place (first + place) other inside refl)
    (each (first + place) (omega arith) (omega arith))

-- what holds between what is made of a number and of each later one holds between all of it
pub AllPairs-range : {A : Type 0} (R : A → A → Type 0) (made : ℕ → A) (first count : ℕ)
    → ((number later : ℕ) → first ≤ number → number < later → later < first + count → R (made number) (made later))
    → AllPairs R (map made (range_with_len first count))
AllPairs-range R made first count each place following other order within =
    let inside : following < count = rw (length-map-range_with_len made first count) at within in
    rw (
      get_or-map-range_with_len made first count place (first + place) other (omega arith) refl,
      get_or-map-range_with_len made first count following (first + following) other inside refl,
    )
    (each (first + place) (first + following) (omega arith) (omega arith) (omega arith))

-- what holds of each place holds part by part
pub AllByRecursion-all : {A : Type 0} (P : A → Type 0) (all : List A) → All P all → AllByRecursion P all
AllByRecursion-all P [] each = tt
AllByRecursion-all P (first ∷ rest) each =
    (All-head P first rest each, AllByRecursion-all P rest (All-tail P first rest each))

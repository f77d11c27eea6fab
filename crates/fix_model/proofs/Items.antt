-- What holds of the items of a list that were read so far.
use Rattle.std.proofs.Common.{◌≡◌, ◌<◌, ◌+◌, ℕ, List, get_or, length, subst}
use Rattle.std.proofs.lemmas.List.{get_or_read}
use borrow.Author.Count.{below_more}

-- what holds of the items before a place, and of the one that is read there, holds of the items up to it
pub each-read : {A : Type 0} (P : A → Type 0) (items : List A) (place : ℕ) (item : A) → place < length items
    → item ≡ get_or items place item → ((other : ℕ) (d : A) → other < place → P (get_or items other d)) → P item
    → (other : ℕ) (d : A) → other < place + 1 → P (get_or items other d)
each-read P items place item within read each here other d =
    below_more (λ n. P (get_or items n d)) place (λ n below. each n d below)
    (subst P (get_or_read items place item within read d) here) other

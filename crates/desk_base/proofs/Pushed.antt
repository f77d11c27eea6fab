-- What holds of each item of a list holds with one item more.
use Rattle.std.proofs.Common.{◌≡◌, ◌<◌, ◌+◌, ◌++◌, ◌∷◌, ℕ, List, [], below_more, get_or, length}
use Rattle.std.proofs.lemmas.List.{get_or_append_left, get_or_push}

-- what holds at each place of a list, and of an item after them, holds at each place of the longer list
pub each-push : {A : Type 0} (P : ℕ → A → Type 0) (items : List A) (count : ℕ) (item d : A) → length items ≡ count
    → ((place : ℕ) → place < count → P place (get_or items place d)) → P count item → (place : ℕ) → place < count + 1
    → P place (get_or (items ++ item ∷ []) place d)
each-push P items count item d whole each new =
    below_more (λ (place : ℕ). P place (get_or (items ++ item ∷ []) place d)) count
    (λ place below. let within : place < length items = rw whole below in
    rw (get_or_append_left items (item ∷ []) d place within) (each place below))
    (rw (get_or_push items item d count whole) new)

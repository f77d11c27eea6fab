-- What lists contain.
use Rattle.std.proofs.Common.{◌≡◌, ◌⊎◌, zero, suc, List, ◌∷◌, inl, inr, sym, refl, arith}
use Rattle.std.specs.Prelude.{All, Contains}

-- the first item is in a list
pub Contains-first : {A : Type 0} (x : A) (xs : List A) → Contains (x ∷ xs) x
Contains-first x xs = (zero, omega arith, refl)

-- an item after the first is in the list
pub Contains-following : {A : Type 0} (x y : A) (xs : List A) → Contains xs y → Contains (x ∷ xs) y
Contains-following x y xs (k, within, is) = (suc k, omega (arith, within), is)

-- an item of a list is the first or after it
pub Contains-cases : {A : Type 0} (x y : A) (xs : List A) → Contains (x ∷ xs) y → (y ≡ x) ⊎ Contains xs y
Contains-cases x y xs (zero, within, is) = inl (sym is)
Contains-cases x y xs (suc k, within, is) = inr (k, omega (arith, within), is)

-- what holds of all items holds of one that the list contains
pub All-Contains : {A : Type 0} (P : A → Type 0) (xs : List A) (x : A) → All P xs → Contains xs x → P x
All-Contains P xs x all (k, within, is) = rw (← is) (all k x within)

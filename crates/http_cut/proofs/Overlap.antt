-- Two ways to cut the same list.
use Rattle.std.proofs.Common.{◌≡◌, ℕ, ◌⊎◌, List, [], ◌∷◌, ◌++◌, refl, sym, inl, inr}

-- the second front goes further, or the first does
abbrev pub Overlap : List ℕ → List ℕ → List ℕ → List ℕ → Type 0
Overlap xs ys us vs =
    ((w : List ℕ) × (us ≡ xs ++ w) × (ys ≡ w ++ vs)) ⊎ ((b : ℕ) × (w : List ℕ) × (xs ≡ us ++ b ∷ w) × (vs
    ≡ b ∷ w ++ ys))

-- two cuts of a list overlap
pub overlap : (xs ys us vs : List ℕ) → xs ++ ys ≡ us ++ vs → Overlap xs ys us vs
overlap [] ys us vs e = inl (us, refl, e)
overlap (x ∷ xs) ys [] vs e = inr (x, xs, refl, sym e)
overlap (x ∷ xs) ys (u ∷ us) vs e =
    let tails : xs ++ ys ≡ us ++ vs = cc in
    let heads : x ≡ u = cc in
    elim (overlap xs ys us vs tails) [
      | inl (w, us_are, ys_are) ↦ inl (w, cc, ys_are)
      | inr (b, w, xs_are, vs_are) ↦ inr (b, w, cc, vs_are)
    ]

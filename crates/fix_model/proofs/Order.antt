-- The lexicographic order of two lists, read off item by item.
use Rattle.std.proofs.Common.{◌≡◌, min, true, false, sym, ◌<◌, ◌+◌, ℕ, List, [], ◌∷◌, drop, length, get_or, map, refl}
use Rattle.std.proofs.Common.{ap, ◌∙◌, arith, add-one, drop-cons, length-drop}
use Rattle.std.specs.Cmp.Lexicographic.{slice_cmp}
use Rattle.std.specs.Char.{to_ascii_lowercase}
use Rattle.std.specs.Cmp.{nat_cmp_is}
use Rattle.std.specs.Ordering.{nat_cmp, ordering_then, is_ne}
use Rattle.std.specs.declared.cmp.Ordering.{Ordering}
use Rattle.std.specs.declared.cmp.Ordering.TheVariants.{Less, Equal, Greater}

-- an order that is not equal decides, whatever comes after it
ordering_then-decided : (order rest : Ordering) → is_ne order ≡ true → ordering_then order rest ≡ order
ordering_then-decided Less rest decided = refl
ordering_then-decided Equal rest decided = absurd cc
ordering_then-decided Greater rest decided = refl

-- an equal one leaves it to what comes after
ordering_then-tied : (order rest : Ordering) → is_ne order ≡ false → ordering_then order rest ≡ rest
ordering_then-tied Less rest tied = absurd cc
ordering_then-tied Equal rest tied = refl
ordering_then-tied Greater rest tied = absurd cc

-- lists of values are ordered as the items that they are the values of
pub slice_cmp-map : {A B C D : Type 0} (R : C → D → Ordering) (f : A → C) (g : B → D) (xs : List A) (ys : List B)
    → slice_cmp R (map f xs) (map g ys) ≡ slice_cmp (λ x y. R (f x) (g y)) xs ys
slice_cmp-map R f g [] [] = refl
slice_cmp-map R f g [] (y ∷ ys) = refl
slice_cmp-map R f g (x ∷ xs) [] = refl
slice_cmp-map R f g (x ∷ xs) (y ∷ ys) = ap (ordering_then (R (f x) (g y))) (slice_cmp-map R f g xs ys)

module _ {A B : Type 0} (R : A → B → Ordering) (xs : List A) (ys : List B) (k : ℕ) (d : A) (e : B)
    (within : k < length xs) (there : k < length ys) where
  -- what stands from a place on is ordered by the items there, and where they tie by what stands after
  slice_cmp-drop : slice_cmp R (drop k xs) (drop k ys)
      ≡ ordering_then (R (get_or xs k d) (get_or ys k e)) (slice_cmp R (drop (k + 1) xs) (drop (k + 1) ys))
  slice_cmp-drop = rw (drop-cons xs k d within, drop-cons ys k e there, add-one) refl

  module _ (order : Ordering) (is : order ≡ R (get_or xs k d) (get_or ys k e)) where
    -- the same with the order that was found
    turned : slice_cmp R (drop k xs) (drop k ys) ≡ ordering_then order (slice_cmp R (drop (k + 1) xs) (drop (k + 1) ys))
    turned = slice_cmp-drop ∙ ap (λ first. ordering_then first (slice_cmp R (drop (k + 1) xs) (drop (k + 1) ys)))
        (sym is)

    -- items that tie leave the order to what stands after them
    pub slice_cmp-drop_tied : is_ne order ≡ false → slice_cmp R (drop k xs) (drop k ys)
        ≡ slice_cmp R (drop (k + 1) xs) (drop (k + 1) ys)
    slice_cmp-drop_tied tied = turned ∙ ordering_then-tied order _ tied

    -- items that do not tie decide it
    pub slice_cmp-drop_decided : is_ne order ≡ true → slice_cmp R (drop k xs) (drop k ys) ≡ order
    slice_cmp-drop_decided decided = turned ∙ ordering_then-decided order _ decided

-- where one of two lists has ended, the lengths of the wholes decide
slice_cmp-lengths : {A B : Type 0} (R : A → B → Ordering) (xs : List A) (ys : List B) (k m n : ℕ) → k + length xs ≡ m
    → k + length ys ≡ n → min (length xs) (length ys) ≡ 0 → slice_cmp R xs ys ≡ nat_cmp m n
slice_cmp-lengths R [] [] k m n one other ended = nat_cmp_is m n Equal (let same : m ≡ n = omega arith in same)
slice_cmp-lengths R [] (y ∷ ys) k m n one other ended = nat_cmp_is m n Less (let less : m < n = omega arith in less)
slice_cmp-lengths R (x ∷ xs) [] k m n one other ended = nat_cmp_is m n Greater (let more : n < m = omega arith in more)
slice_cmp-lengths R (x ∷ xs) (y ∷ ys) k m n one other ended = absurd (omega arith)

-- so they do from the place on where one of two lists ends
pub slice_cmp-ended : {A B : Type 0} (R : A → B → Ordering) (xs : List A) (ys : List B) (k : ℕ) → k
    ≡ min (length xs) (length ys) → slice_cmp R (drop k xs) (drop k ys) ≡ nat_cmp (length xs) (length ys)
slice_cmp-ended R xs ys k ends =
    let one = length-drop k xs in
    let other = length-drop k ys in
    slice_cmp-lengths R (drop k xs) (drop k ys) k (length xs) (length ys) (omega (arith, one)) (omega (arith, other))
    (omega (arith, one, other))

-- the order of two bytes without regard to ASCII case
abbrev pub folded_cmp : ℕ → ℕ → Ordering
folded_cmp byte against = nat_cmp (to_ascii_lowercase byte) (to_ascii_lowercase against)

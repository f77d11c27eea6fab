-- How printed texts grow.
use Rattle.std.proofs.Common.{◌≡◌, ◌∙◌, ℕ, ◌+◌, ◌<◌, ◌==◌, List, [], ◌∷◌, ◌++◌, length, get_or, take, map, refl, ap}
use Rattle.std.proofs.Common.{append_assoc, length-take-le, arith, inl, inr}
use Rattle.std.proofs.lemmas.Bool.{cases_Bool}
use Rattle.std.proofs.lemmas.List.{take_more, map-append, length-map}
use Rattle.rule_text.specs.Printing.{doubled, separator, listed}

-- a byte more
pub doubled-append : (xs : List ℕ) (x : ℕ) → doubled (xs ++ x ∷ []) ≡ doubled xs ++ doubled (x ∷ [])
doubled-append [] x = refl
doubled-append (y ∷ ys) x =
    elim (cases_Bool (y == 34)) [
      | inl is ↦ rw is (ap (λ bytes. 34 ∷ 34 ∷ bytes) (doubled-append ys x))
      | inr other ↦ rw other (ap (λ bytes. y ∷ bytes) (doubled-append ys x))
    ]

-- a text more
pub listed-append : (xs : List (List ℕ)) (x : List ℕ) → listed (xs ++ x ∷ []) ≡ listed xs ++ separator (length xs) ++ x
listed-append [] x = refl
listed-append (y ∷ []) x = refl
listed-append (y ∷ z ∷ rest) x = rw (listed-append (z ∷ rest) x) (simp append_assoc)

-- an item more
pub listed-take : {A : Type 0} (shown : A → List ℕ) (xs : List A) (i : ℕ) (x : A) → i < length xs → x ≡ get_or xs i x
    → listed (map shown (take (i + 1) xs)) ≡ (listed (map shown (take i xs)) ++ separator i) ++ shown x
listed-take shown xs i x within is =
    let long : length (map shown (take i xs)) ≡ i = rw length-map (length-take-le i xs (omega arith)) in
    rw (take_more xs i x within, ← is, map-append, listed-append, long) refl

-- the byte at a place more
pub doubled-take : (xs : List ℕ) (i d : ℕ) → i < length xs
    → doubled (take (i + 1) xs) ≡ doubled (take i xs) ++ doubled (get_or xs i d ∷ [])
doubled-take xs i d within = rw (take_more xs i d within) (doubled-append (take i xs) (get_or xs i d))

-- what grew by one part and then by another
pub grown : {A : Type 0} (before out now x y : List A) → now ≡ out ++ y → out ≡ before ++ x → now ≡ before ++ (x ++ y)
grown before out now x y second first = second ∙ ap (λ list. list ++ y) first ∙ append_assoc before x y

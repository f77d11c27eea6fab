-- What slices of bytes hold, one after another.
use Rattle.std.proofs.Common.{◌≡◌, ◌<◌, ◌++◌, ◌∷◌, ℕ, zero, suc, List, [], Bor, ap, arith, drop, get_or, length, refl, take}
use Rattle.desk_base.specs.Texts.{bytes_of}

-- what is left of the texts begins with that of the field at hand
pub drop-texts : (fields : List (Bor (List ℕ))) (place : ℕ) (d : Bor (List ℕ)) → place < length fields
    → drop place (bytes_of fields) ≡ (get_or fields place d).now ∷ drop (suc place) (bytes_of fields)
drop-texts [] place d within = absurd (omega arith)
drop-texts (x ∷ rest) zero d within = refl
drop-texts (x ∷ rest) (suc place) d within = drop-texts rest place d (omega arith)

-- the front of the texts grows by that of the field at hand
pub take-texts : (fields : List (Bor (List ℕ))) (place : ℕ) (d : Bor (List ℕ)) → place < length fields
    → take (suc place) (bytes_of fields) ≡ take place (bytes_of fields) ++ (get_or fields place d).now ∷ []
take-texts [] place d within = absurd (omega arith)
take-texts (x ∷ rest) zero d within = refl
take-texts (x ∷ rest) (suc place) d within = ap (λ l. x.now ∷ l) (take-texts rest place d (omega arith))

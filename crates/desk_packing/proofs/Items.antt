-- Items that are read one after another.
use Rattle.std.proofs.Common.{◌≡◌, ℕ, suc, ◌+◌, ◌-◌, ◌<◌, List, [], ◌∷◌, ◌++◌, Some, None, Option, refl}
use Rattle.std.proofs.Common.{sym, append_assoc, arith}
use Rattle.std.specs.Prelude.{option_map}
use Rattle.desk_packing.specs.Formats.{Format, items_in}

-- what is found with these in front
abbrev pub following : {A B : Type 0} → List A → Option (List A × B) → Option (List A × B)
following front found = option_map (λ more. (front ++ more.0, more.1)) found

-- one more in front
pub following-following : {A B : Type 0} (front : List A) (x : A) (found : Option (List A × B))
    → following front (following (x ∷ []) found) ≡ following (front ++ x ∷ []) found
following-following front x None = refl
following-following front x (Some more) = rw append_assoc refl

-- where items are still to be read, the next one stands in front of those after it
pub items_in-next : {A : Type 0} (format : Format A) (count place : ℕ) (front : List A) (x : A) (left rest : List ℕ)
    → place < count → format.parse left ≡ Some (x, rest)
    → following (front ++ x ∷ []) (items_in format (count - (place + 1)) rest)
    ≡ following front (items_in format (count - place) left)
items_in-next format count place front x left rest within found =
    let one : count - place ≡ suc (count - (place + 1)) = omega arith in
    rw one (rw found (sym (following-following front x (items_in format (count - (place + 1)) rest))))

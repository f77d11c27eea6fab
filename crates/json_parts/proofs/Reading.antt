-- The items of an array.
use Rattle.std.proofs.Common.{◌≡◌, List, [], ◌∷◌, refl, ap}
use Rattle.serde_json.specs.Data.{Data}
use Rattle.serde_json.specs.View.{items_of}
use Rattle.json_parts.specs.Parts.{all_items}

-- the items of an array that is made of a list are the list
pub all_items-items_of : (values : List Data) → all_items (items_of values) ≡ values
all_items-items_of [] = refl
all_items-items_of (first ∷ others) = ap (λ rest. first ∷ rest) (all_items-items_of others)

-- The keys of an object.
use Rattle.std.proofs.Common.{◌≡◌, List, [], ◌∷◌, map, ap, refl, String, Global, string_bytes}
use Rattle.std.specs.Map.{keys_of}
use Rattle.serde_json.specs.View.{members_view}
use Rattle.serde_json.specs.declared.value.Value.{Value}
use Rattle.json_parts.specs.Parts as parts

-- the keys of an object are the texts of its entries' keys
pub keys_of-members_view : (entries : List (String Global × Value))
    → parts.keys_of (members_view entries) ≡ map string_bytes (keys_of entries)
keys_of-members_view [] = refl
keys_of-members_view (entry ∷ entries) = ap (λ rest. string_bytes entry.0 ∷ rest) (keys_of-members_view entries)

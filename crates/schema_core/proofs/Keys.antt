-- The keys of a document.
use Rattle.std.proofs.Common.{◌≡◌, List, [], ◌∷◌, String, Global, string_bytes, refl}
use Rattle.std.specs.List.{list_all}
use Rattle.std.specs.Map.{keys_of}
use Rattle.toml.specs.View.{members_view}
use Rattle.toml.specs.declared.value.Value.{Value}
use Rattle.schema_core.specs.Reading.{is_known_key, keys_known}

-- those of the members that a map stands for are the map's
pub keys_known-view : (entries : List (String Global × Value))
    → keys_known (members_view entries) ≡ list_all (λ key. is_known_key (string_bytes key)) (keys_of entries)
keys_known-view [] = refl
keys_known-view (entry ∷ rest) = rw (keys_known-view rest) refl

-- The keys and the items of a document.
use Rattle.std.proofs.Common.{◌≡◌, ℕ, ◌+◌, ◌<◌, List, [], ◌∷◌, String, Global}
use Rattle.std.proofs.Common.{length, get_or, drop, map, string_bytes}
use Rattle.std.proofs.Common.{true, refl, ap}
use Rattle.std.specs.Prelude.{is_some}
use Rattle.std.specs.Map as entries
use Rattle.std.proofs.lemmas.List.{drop_more}
use Rattle.toml.specs.Data.{as_str}
use Rattle.toml.specs.View.{items_view, members_view, view}
use Rattle.toml.specs.declared.value.Value.{Value}
use Rattle.fault_sentences.specs.Schemas.{item_kind, keys_of}

-- the keys of the members that a map stands for are the map's
pub keys_of-view : (pairs : List (String Global × Value))
    → keys_of (members_view pairs) ≡ map string_bytes (entries.keys_of pairs)
keys_of-view [] = refl
keys_of-view (pair ∷ rest) = ap (λ keys. string_bytes pair.0 ∷ keys) (keys_of-view rest)

-- an item that is a text is passed
pub item_kind-passed : (place : ℕ) (items : List Value) (i : ℕ) (d : Value) → i < length items
    → is_some (as_str (view (get_or items i d))) ≡ true
    → item_kind place (items_view (drop i items)) ≡ item_kind (place + 1) (items_view (drop (i + 1) items))
item_kind-passed place items i d within text = rw (drop_more items i d within, text) refl

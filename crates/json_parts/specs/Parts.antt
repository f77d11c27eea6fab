-- The parts of a JSON value, where they have the form that is wanted (docs/formats.md, JSON).
use Rattle.std.specs.Prelude.{ℕ, nat_le, ◌&&◌, List, [], ◌∷◌, length, Bool, false, if◌then◌else◌, Option, Some, None}
use Rattle.std.specs.Prelude.{option_map, option_and_then}
use Rattle.std.specs.Option.{option_map_or}
use Rattle.std.specs.Cmp.Lexicographic.{pointwise}
use Rattle.std.specs.Str.{bytes_eq, is_utf8}
use Rattle.serde_json.specs.Data.{Data, Items, no_items, item, Members, no_members, member}
use Rattle.serde_json.specs.Find.{as_array, as_number, as_object, as_str, as_u64, get}
use Rattle.serde_json.specs.Read.{read}
use Rattle.desk_base.specs.declared.limits.TheConstants.{MAX_TEXT}

infixl 10 ◌>>=◌
-- what is made of a part, where the part is there
abbrev pub ◌>>=◌ : {A B : Type 0} → Option A → (A → Option B) → Option B
part >>= next = option_and_then next part

-- the value that bytes write, where they are UTF-8 and JSON
unfoldable pub json_of : List ℕ → Option Data
json_of bytes = if is_utf8 bytes then read bytes else None

-- a part, where it passes the test
abbrev pub only_if : {A : Type 0} → (A → Bool) → A → Option A
only_if test part = if test part then Some part else None

-- the items of an array, in their order
abbrev pub all_items : Items → List Data
all_items no_items = []
all_items (item first others) = first ∷ all_items others

-- the items of a value that is an array
abbrev pub items_in : Data → Option (List Data)
items_in value = option_map all_items (as_array value)

-- what is read of each item, where something is read of all
abbrev pub each : {A : Type 0} → (Data → Option A) → List Data → Option (List A)
each read [] = Some []
each read (first ∷ others) = do
  part ← read first
  parts ← each read others
  Some (part ∷ parts)

-- what is read of each item of an array
abbrev pub list_in : {A : Type 0} → (Data → Option A) → Data → Option (List A)
list_in read value = do
  items ← items_in value
  each read items

-- a text: a string of at most 200 bytes
abbrev pub text_in : Data → Option (List ℕ)
text_in value = do
  bytes ← as_str value
  only_if (λ text. nat_le (length text) MAX_TEXT) bytes

-- a list of texts
abbrev pub texts_in : Data → Option (List (List ℕ))
texts_in = list_in text_in

-- a whole number from 1 up to the greatest, written without fraction and exponent
abbrev pub number_in : ℕ → Data → Option ℕ
number_in greatest value = do
  written ← as_number value
  number ← as_u64 written
  only_if (λ count. nat_le 1 count && nat_le count greatest) number

-- the keys of an object, each once and in byte order
abbrev pub keys_of : Members → List (List ℕ)
keys_of no_members = []
keys_of (member key value others) = key ∷ keys_of others

-- an object with exactly these keys, which are given in byte order
abbrev pub has_keys : List (List ℕ) → Data → Bool
has_keys keys value = option_map_or (λ members. pointwise bytes_eq (keys_of members) keys) (as_object value) false

-- what is read of the value at a key
abbrev pub field : {A : Type 0} → List ℕ → (Data → Option A) → Data → Option A
field key read value = do
  found ← get key value
  read found

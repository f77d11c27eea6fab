-- The forms of what bodies hold at their keys (docs/api.md, Bodies).
use Rattle.std.specs.Prelude.{ℕ, ◌-◌, ◌^◌, List, [], ◌∷◌, if◌then◌else◌, Option, Some, None, codes}
use Rattle.std.specs.Str.{bytes_eq}
use Rattle.serde_json.specs.Data.{Data, Members, no_members, member}
use Rattle.serde_json.specs.Find.{as_object, as_str}
use Rattle.desk_words.specs.declared.clerk_work.Accept.{Accept}
use Rattle.desk_words.specs.declared.clerk_work.Accept.TheVariants.{Certain, Partial}
use Rattle.json_parts.specs.Parts.{◌>>=◌, items_in, list_in, number_in}

-- a list of strings
abbrev pub strings_in : Data → Option (List (List ℕ))
strings_in = list_in as_str

-- a list of lists of strings
abbrev pub string_rows_in : Data → Option (List (List (List ℕ)))
string_rows_in = list_in strings_in

-- a pair of strings: `[string,string]`
abbrev pub string_pair_of : List Data → Option (List ℕ × List ℕ)
string_pair_of (first ∷ second ∷ []) = do
  one ← as_str first
  other ← as_str second
  Some (one, other)
string_pair_of items = None

-- a value that is an array of two strings
abbrev pub string_pair_in : Data → Option (List ℕ × List ℕ)
string_pair_in value = do
  items ← items_in value
  string_pair_of items

-- a list of pairs of strings
abbrev pub string_pairs_in : Data → Option (List (List ℕ × List ℕ))
string_pairs_in = list_in string_pair_in

-- a number: a whole one from 1 to 4,294,967,295
abbrev pub count_in : Data → Option ℕ
count_in = number_in (2 ^ 32 - 1)

-- the version of something published: `[name,number]`
abbrev pub version_of : List Data → Option (List ℕ × ℕ)
version_of (name ∷ count ∷ []) = do
  text ← as_str name
  version ← count_in count
  Some (text, version)
version_of items = None

-- a value that is an array of a name and a number
abbrev pub version_in : Data → Option (List ℕ × ℕ)
version_in value = do
  items ← items_in value
  version_of items

-- the cells of an object of strings: each key with its text, in byte order of the keys
abbrev pub cells_of : Members → Option (List (List ℕ × List ℕ))
cells_of no_members = Some []
cells_of (member key value others) = do
  text ← as_str value
  cells ← cells_of others
  Some ((key, text) ∷ cells)

-- a value that is an object of strings
abbrev pub cells_in : Data → Option (List (List ℕ × List ℕ))
cells_in value = do
  members ← as_object value
  cells_of members

-- `"certain"` or `"partial"`
abbrev pub accept_of : List ℕ → Option Accept
accept_of word =
    if bytes_eq word (codes "certain") then Some Certain
    else if bytes_eq word (codes "partial") then Some Partial
    else None

-- a string that is one of these two words
abbrev pub accept_in : Data → Option Accept
accept_in value = do
  word ← as_str value
  accept_of word

-- The sentences on schemas: from the fault and the text.
use Rattle.std.specs.Prelude.{◌≡◌, ◌≤◌, ℕ, ◌+◌, ◌-◌, ◌==◌, Bool, true, false, not, if◌then◌else◌, List, [], ◌∷◌, ◌++◌}
use Rattle.std.specs.Prelude.{length, drop, find, position, take, unwrap_or, slice_index_or, codes, decimal, is_some}
use Rattle.std.specs.Option.{option_map_or}
use Rattle.std.specs.Str.{bytes_eq, is_utf8}
use Rattle.toml.specs.Data.{Data, string, Items, no_items, item, Members, no_members, member, get_member}
use Rattle.toml.specs.Data.{as_array, as_bool, as_datetime, as_float, as_integer, as_str}
use Rattle.rule_text.specs.Tokens.{comment_length}
use Rattle.schema_core.specs.declared.fault.SchemaFault.{SchemaFault}
use Rattle.schema_core.specs.declared.fault.SchemaFault.TheVariants as fault
use Rattle.schema_core.specs.Reading.{document_of, is_known_key, texts_of}
use Rattle.fault_sentences.specs.Shown.{shown}
use Rattle.fault_sentences.specs.Equals.{equals_earlier, numbered}
use Rattle.fault_sentences.specs.Places.{at_place, not_utf8, place_in}
use Rattle.fault_sentences.specs.Published.{name_form}
use Rattle.fault_sentences.specs.Memory.{no_memory}
use Rattle.fault_sentences.specs.Printable.{IsPrintable}

-- what a value is
unfoldable pub kind_of : Data → List ℕ
kind_of value =
    if is_some (as_str value) then codes "a text"
    else if is_some (as_integer value) then codes "a whole number"
    else if is_some (as_float value) then codes "a number"
    else if is_some (as_bool value) then codes "true or false"
    else if is_some (as_datetime value) then codes "a date or a time"
    else if is_some (as_array value) then codes "a list"
    else codes "a table"

-- the keys of a document, in byte order
abbrev pub keys_of : Members → List (List ℕ)
keys_of no_members = []
keys_of (member key value rest) = key ∷ keys_of rest

-- the first key that is no key of a schema
abbrev pub first_unknown : Members → List ℕ
first_unknown members = unwrap_or (find (λ key. not (is_known_key key)) (keys_of members)) []

-- the value at a key, a blank text where there is none
abbrev pub value_at : List ℕ → Members → Data
value_at key members = unwrap_or (get_member key members) (string [])

-- the name, where it is a text
abbrev pub name_in : Members → List ℕ
name_in members = unwrap_or (as_str (value_at (codes "name") members)) []

-- the attributes, where they are an array of texts
abbrev pub attributes_in : Members → List (List ℕ)
attributes_in members = unwrap_or (texts_of (value_at (codes "attributes") members)) []

-- the attribute at a position, from 1
abbrev pub attribute_at : List (List ℕ) → ℕ → List ℕ
attribute_at attributes position = slice_index_or attributes (position - 1) []

-- the position of the first attribute of this name
abbrev pub first_position : List (List ℕ) → List ℕ → ℕ
first_position attributes name = unwrap_or (position (bytes_eq name) attributes) 0 + 1

-- what stands where a text is wanted
unfoldable pub wants_text : Data → List ℕ
wants_text value = codes " is " ++ kind_of value ++ codes ", and is to be a text between quotes"

-- the first item that is no text, from this position on
abbrev pub item_kind : ℕ → Items → List ℕ
item_kind place no_items = []
item_kind place (item value rest) =
    if is_some (as_str value) then item_kind (place + 1) rest
    else codes "attribute " ++ decimal place ++ wants_text value

-- what stands at `attributes` where a list is wanted
unfoldable pub wants_list : Data → List ℕ
wants_list value =
    codes "attributes is " ++ kind_of value ++ codes ", and is to be a list of texts, as [\"zip\", \"city\"]"

-- what stands at `attributes` where a list of texts is wanted
abbrev pub attributes_kind : Data → List ℕ
attributes_kind value = option_map_or (item_kind 1) (as_array value) (wants_list value)

-- the form of words
abbrev pub word_form : List ℕ
word_form = codes ", is no word; take a letter or _, and then letters, digits or _, at most 32 bytes"

-- the keys of a schema, of which one is none
unfoldable pub schema_keys : List ℕ
schema_keys = codes " is none of a schema, which has name and attributes alone; rename it, or take it out"

-- another key
unfoldable pub unknown_key : Members → List ℕ
unknown_key members = codes "the key " ++ shown (first_unknown members) ++ schema_keys

-- a key that is missing
unfoldable pub missing_key : ℕ → List ℕ
missing_key key =
    if key == 1 then codes "the key name is missing; give the schema a name, as name = \"address\""
    else codes "the key attributes is missing; list the attributes, as attributes = [\"zip\", \"city\"]"

-- a value of another kind
unfoldable pub wrong_kind : ℕ → Members → List ℕ
wrong_kind key members =
    if key == 1 then codes "name" ++ wants_text (value_at (codes "name") members)
    else attributes_kind (value_at (codes "attributes") members)

-- an attribute that has not its form
unfoldable pub bad_attribute : ℕ → List (List ℕ) → List ℕ
bad_attribute position attributes =
    numbered (codes "attribute ") position (attribute_at attributes position) ++ word_form

-- a name or an attribute that has not its form
unfoldable pub bad_name : ℕ → Members → List ℕ
bad_name position members =
    if position == 0 then codes "the name " ++ shown (name_in members) ++ name_form
    else bad_attribute position (attributes_in members)

-- a number of attributes that a schema can not have
unfoldable pub bad_count : ℕ → List ℕ
bad_count count =
    if count == 0 then codes "the list of attributes is empty; name at least one"
    else codes "there are " ++ decimal count ++ codes " attributes, and a schema has at most 48; leave some out"

-- an attribute that equals an earlier one
unfoldable pub twice : ℕ → List (List ℕ) → List ℕ
twice position attributes =
    equals_earlier (codes "attribute ") position (attribute_at attributes position)
    (first_position attributes (attribute_at attributes position)) ++ codes "; keep one of the two"

-- the sentence on a document
unfoldable pub document_sentence : SchemaFault → Members → List ℕ
document_sentence fault.NotToml document = []
document_sentence fault.UnknownKey document = unknown_key document
document_sentence (fault.MissingKey key) document = missing_key key
document_sentence (fault.WrongKind key) document = wrong_kind key document
document_sentence (fault.BadName position) document = bad_name position document
document_sentence (fault.BadCount count) document = bad_count count
document_sentence (fault.Twice position) document = twice position (attributes_in document)
document_sentence fault.NoMemory document = no_memory

-- what stands on a line from an index on
abbrev pub line_from : List ℕ → ℕ → List ℕ
line_from text index = take (comment_length (drop index text)) (drop index text)

abbrev pub here_shown : List ℕ → List ℕ
here_shown line = if length line == 0 then codes "the end of the line" else shown line

-- one of two statements
abbrev pub if_utf8 : Bool → Type 0 → Type 0 → Type 0
if_utf8 true one other = one
if_utf8 false one other = other

-- a text that is no TOML from an index on, and why
unfoldable pub not_toml : List ℕ → ℕ → List ℕ → List ℕ
not_toml text index why =
    at_place (place_in text index).line (place_in text index).column
    ++ codes "no TOML at " ++ here_shown (line_from text index) ++ codes ": " ++ why

-- the sentence on a text that is no TOML, of which toml tells the place and the cause, in printable ASCII
pub record IsNotToml (text sentence : List ℕ) : Type 0 where
  pub index : ℕ
  pub why : List ℕ
  pub within : index ≤ length text
  pub printable : IsPrintable why
  pub told : sentence ≡ not_toml text index why

-- the sentence on a text
abbrev pub IsSchemaSentence : SchemaFault → List ℕ → List ℕ → Type 0
IsSchemaSentence fault.NotToml text sentence =
    if_utf8 (is_utf8 text) (IsNotToml text sentence) (sentence ≡ not_utf8 text)
IsSchemaSentence other text sentence = sentence ≡ document_sentence other (unwrap_or (document_of text) no_members)

-- a text that is no TOML, wherever
unfoldable pub no_toml : List ℕ
no_toml = codes "the text is no TOML; write name = \"address\" on a line, and attributes = [\"zip\", \"city\"] on another"

-- the sentence on a text that is UTF-8 and no TOML without a place, and else the same
abbrev pub plain_schema_sentence : SchemaFault → List ℕ → List ℕ
plain_schema_sentence fault.NotToml text = if is_utf8 text then no_toml else not_utf8 text
plain_schema_sentence other text = document_sentence other (unwrap_or (document_of text) no_members)

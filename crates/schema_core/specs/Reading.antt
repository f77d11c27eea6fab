-- What a text reads as: a schema, or the first test that it fails.
use Rattle.std.specs.Prelude.{codes, ℕ, ◌+◌, ◌==◌, nat_lt, Bool, true, not, ◌&&◌, ◌||◌, if◌then◌else◌, List, [], ◌∷◌}
use Rattle.std.specs.Prelude.{◌++◌, length, Option, Some, None, option_map, option_and_then, Result, Ok, Err}
use Rattle.std.specs.Option.{option_or, option_map_or}
use Rattle.std.specs.Str.{bytes_eq, is_utf8}
use Rattle.desk_base.specs.declared.limits.TheConstants.{MAX_ATTRIBUTES}
use Rattle.desk_base.specs.Places.{has_text}
use Rattle.toml.specs.Data.{Data, Items, no_items, item, Members, no_members, member, get_member, as_str, as_array}
use Rattle.toml.specs.Parse.{parse_document}
use Rattle.desk_base.specs.Words.{is_name, is_word}
use Rattle.schema_core.specs.declared.schema.Schema.{Schema}
use Rattle.schema_core.specs.declared.fault.SchemaFault.{SchemaFault}
use Rattle.schema_core.specs.declared.fault.SchemaFault.TheVariants.{NotToml, UnknownKey, MissingKey, WrongKind}
use Rattle.schema_core.specs.declared.fault.SchemaFault.TheVariants.{BadName, BadCount, Twice}

-- the key is `name` or `attributes`
abbrev pub is_known_key : List ℕ → Bool
is_known_key key = bytes_eq key (codes "name") || bytes_eq key (codes "attributes")

-- each key of a document is one of the two
abbrev pub keys_known : Members → Bool
keys_known no_members = true
keys_known (member key value rest) = is_known_key key && keys_known rest

-- the strings of an array that holds nothing else
abbrev pub texts_in : Items → Option (List (List ℕ))
texts_in no_items = Some []
texts_in (item value rest) = option_and_then (λ text. option_map (λ texts. text ∷ texts) (texts_in rest)) (as_str value)

-- the strings of a value that is an array of strings
abbrev pub texts_of : Data → Option (List (List ℕ))
texts_of value = option_and_then texts_in (as_array value)

-- what is wrong with an attribute after these: it is no word, or it stands among them
abbrev pub attribute_fault : List (List ℕ) → List ℕ → Option SchemaFault
attribute_fault earlier attribute =
    if not (is_word attribute) then Some (BadName (length earlier + 1))
    else if has_text earlier attribute then Some (Twice (length earlier + 1))
    else None

-- the first fault among attributes that stand after these
abbrev pub first_fault : List (List ℕ) → List (List ℕ) → Option SchemaFault
first_fault earlier [] = None
first_fault earlier (attribute ∷ rest) = option_or (attribute_fault earlier attribute)
    (first_fault (earlier ++ attribute ∷ []) rest)

-- the schema of a name and attributes
abbrev pub schema_with : List ℕ → List (List ℕ) → Result Schema SchemaFault
schema_with name attributes =
    if not (is_name name) then Err (BadName 0)
    else if length attributes == 0 || nat_lt MAX_ATTRIBUTES (length attributes) then Err (BadCount (length attributes))
    else option_map_or Err (first_fault [] attributes) (Ok (record { name = name; attributes = attributes }))

-- the schema of a string and an array of strings
abbrev pub schema_of_texts : Option (List ℕ) → Option (List (List ℕ)) → Result Schema SchemaFault
schema_of_texts None attributes = Err (WrongKind 1)
schema_of_texts (Some name) None = Err (WrongKind 2)
schema_of_texts (Some name) (Some attributes) = schema_with name attributes

-- the schema of the values at the two keys
abbrev pub schema_of_values : Option Data → Option Data → Result Schema SchemaFault
schema_of_values None attributes = Err (MissingKey 1)
schema_of_values (Some name) None = Err (MissingKey 2)
schema_of_values (Some name) (Some attributes) = schema_of_texts (as_str name) (texts_of attributes)

-- the schema of a document
abbrev pub schema_of_document : Members → Result Schema SchemaFault
schema_of_document members =
    if keys_known members then schema_of_values (get_member (codes "name") members)
    (get_member (codes "attributes") members)
    else Err UnknownKey

-- the document that bytes write, where they are UTF-8 and TOML
abbrev pub document_of : List ℕ → Option Members
document_of bytes = if is_utf8 bytes then parse_document bytes else None

-- what bytes read as
unfoldable pub schema_of : List ℕ → Result Schema SchemaFault
schema_of bytes = option_map_or schema_of_document (document_of bytes) (Err NotToml)

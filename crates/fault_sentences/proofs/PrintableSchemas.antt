-- The sentences on schemas are printable ASCII.
use Rattle.std.proofs.Common.{◌≡◌, ℕ, ◌+◌, Bool, true, false, List, refl}
use Rattle.std.specs.Prelude.{codes, if◌then◌else◌}
use Rattle.std.specs.Str.{is_utf8}
use Rattle.std.proofs.lemmas.List.Folds.{list_all-append}
use Rattle.toml.specs.Data.{Data, Items, no_items, item, Members}
use Rattle.toml.specs.Data.{as_array}
use Rattle.std.specs.declared.option.Option.{Option}
use Rattle.std.specs.Prelude.{Some, None}
use Rattle.std.specs.Option.{option_map_or}
use Rattle.schema_core.specs.declared.fault.SchemaFault.{SchemaFault}
use Rattle.schema_core.specs.declared.fault.SchemaFault.TheVariants as fault
use Rattle.fault_sentences.specs.Places.{not_utf8}
use Rattle.fault_sentences.specs.Printable.{IsPrintable}
use Rattle.fault_sentences.specs.Schemas.{attribute_at, attributes_in, attributes_kind}
use Rattle.fault_sentences.specs.Schemas.{bad_attribute, bad_count, bad_name}
use Rattle.fault_sentences.specs.Schemas.{document_sentence, first_position, if_utf8, IsNotToml}
use Rattle.fault_sentences.specs.Schemas.{IsSchemaSentence, item_kind, kind_of, missing_key, not_toml}
use Rattle.fault_sentences.specs.Schemas.{no_toml, plain_schema_sentence, schema_keys, twice, unknown_key, wants_list, wants_text, wrong_kind}
use Rattle.fault_sentences.proofs.Printable.{at_place-printable, decimal-printable, equals_earlier-printable}
use Rattle.fault_sentences.proofs.Printable.{not_utf8-printable, numbered-printable, shown-printable}
use Rattle.fault_sentences.proofs.Printable.{if-same, list_all-if}

-- what stands where a text is wanted
wants_text-printable : (value : Data) → IsPrintable (wants_text value)
unfolding wants_text kind_of
wants_text-printable value = simp (list_all-if, if-same, list_all-append)

-- what stands where a list is wanted
wants_list-printable : (value : Data) → IsPrintable (wants_list value)
unfolding wants_list kind_of
wants_list-printable value = simp (list_all-if, if-same, list_all-append)

-- the first item that is no text
item_kind-printable : (place : ℕ) (items : Items) → IsPrintable (item_kind place items)
item_kind-printable place no_items = refl
item_kind-printable place (item value rest) = simp (
  list_all-if,
  item_kind-printable (place + 1) rest,
  list_all-append,
  decimal-printable,
  wants_text-printable,
  if-same,
)

-- the items of what may be a list
list-printable : (found : Option Items) (other : List ℕ) → IsPrintable other
    → IsPrintable (option_map_or (item_kind 1) found other)
list-printable None other is = is
list-printable (Some items) other is = item_kind-printable 1 items

-- what stands at `attributes`
attributes_kind-printable : (value : Data) → IsPrintable (attributes_kind value)
attributes_kind-printable value = list-printable (as_array value) (wants_list value) (wants_list-printable value)

-- an attribute that has not its form
bad_name-printable : (position : ℕ) (document : Members) → IsPrintable (bad_name position document)
unfolding bad_name bad_attribute
bad_name-printable position document =
    let attribute = attribute_at (attributes_in document) position in
    simp (
      list_all-if,
      if-same,
      list_all-append,
      shown-printable,
      numbered-printable (codes "attribute ") position attribute refl,
    )

-- an attribute that equals an earlier one
twice-printable : (position : ℕ) (attributes : List (List ℕ)) → IsPrintable (twice position attributes)
unfolding twice
twice-printable position attributes =
    let attribute = attribute_at attributes position in
    let earlier = first_position attributes attribute in
    simp (list_all-append, equals_earlier-printable (codes "attribute ") position attribute earlier refl)

-- the sentence on a document
document_sentence-printable : (fault : SchemaFault) (document : Members)
    → IsPrintable (document_sentence fault document)
unfolding document_sentence unknown_key schema_keys missing_key wrong_kind bad_count
document_sentence-printable fault.NotToml document = refl
document_sentence-printable fault.UnknownKey document = simp (list_all-append, shown-printable)
document_sentence-printable (fault.MissingKey key) document = simp (list_all-if, if-same)
document_sentence-printable (fault.WrongKind key) document =
    simp (list_all-if, if-same, wants_text-printable, attributes_kind-printable)
document_sentence-printable (fault.BadName position) document = bad_name-printable position document
document_sentence-printable (fault.BadCount count) document =
    simp (list_all-if, if-same, list_all-append, decimal-printable)
document_sentence-printable (fault.Twice position) document = twice-printable position (attributes_in document)
document_sentence-printable fault.NoMemory document = refl

-- a text that is no TOML
not_toml-printable : (text : List ℕ) (index : ℕ) (why : List ℕ) → IsPrintable why
    → IsPrintable (not_toml text index why)
unfolding not_toml
not_toml-printable text index why is =
    simp (list_all-if, if-same, list_all-append, at_place-printable, shown-printable, is)

-- the sentence on a text that is not read
if_utf8-printable : (utf8 : Bool) (text sentence : List ℕ)
    → if_utf8 utf8 (IsNotToml text sentence) (sentence ≡ not_utf8 text) → IsPrintable sentence
if_utf8-printable true text sentence is = rw is.told (not_toml-printable text is.index is.why is.printable)
if_utf8-printable false text sentence is = rw is (not_utf8-printable text)

-- the sentence
pub schema_sentence-printable : (fault : SchemaFault) (text sentence : List ℕ) → IsSchemaSentence fault text sentence
    → IsPrintable sentence
schema_sentence-printable fault.NotToml text sentence is = if_utf8-printable (is_utf8 text) text sentence is
schema_sentence-printable fault.UnknownKey text sentence is =
    rw is (document_sentence-printable fault.UnknownKey _)
schema_sentence-printable (fault.MissingKey key) text sentence is =
    rw is (document_sentence-printable (fault.MissingKey key) _)
schema_sentence-printable (fault.WrongKind key) text sentence is =
    rw is (document_sentence-printable (fault.WrongKind key) _)
schema_sentence-printable (fault.BadName position) text sentence is =
    rw is (document_sentence-printable (fault.BadName position) _)
schema_sentence-printable (fault.BadCount count) text sentence is =
    rw is (document_sentence-printable (fault.BadCount count) _)
schema_sentence-printable (fault.Twice position) text sentence is =
    rw is (document_sentence-printable (fault.Twice position) _)
schema_sentence-printable fault.NoMemory text sentence is =
    rw is (document_sentence-printable fault.NoMemory _)

-- and so is the one without a place
no_place-printable : (utf8 : Bool) (text : List ℕ) → IsPrintable (if utf8 then no_toml else not_utf8 text)
unfolding no_toml
no_place-printable true text = refl
no_place-printable false text = not_utf8-printable text

pub plain_schema_sentence-printable : (fault : SchemaFault) (text : List ℕ)
    → IsPrintable (plain_schema_sentence fault text)
plain_schema_sentence-printable fault.NotToml text = no_place-printable (is_utf8 text) text
plain_schema_sentence-printable fault.UnknownKey text = document_sentence-printable fault.UnknownKey _
plain_schema_sentence-printable (fault.MissingKey key) text = document_sentence-printable (fault.MissingKey key) _
plain_schema_sentence-printable (fault.WrongKind key) text = document_sentence-printable (fault.WrongKind key) _
plain_schema_sentence-printable (fault.BadName position) text =
    document_sentence-printable (fault.BadName position) _
plain_schema_sentence-printable (fault.BadCount count) text = document_sentence-printable (fault.BadCount count) _
plain_schema_sentence-printable (fault.Twice position) text = document_sentence-printable (fault.Twice position) _
plain_schema_sentence-printable fault.NoMemory text = document_sentence-printable fault.NoMemory _

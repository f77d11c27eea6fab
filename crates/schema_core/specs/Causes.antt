-- What is wrong with bytes that are refused: one equation a fault, without the order of the tests.
use Rattle.std.specs.Prelude.{◌≡◌, ◌⊎◌, ℕ, ◌+◌, ◌<◌, codes, false, List, length, Option, Some, None}
use Rattle.std.specs.Prelude.{option_and_then, slice_get, IsSomeAnd}
use Rattle.desk_base.specs.declared.limits.TheConstants.{MAX_ATTRIBUTES}
use Rattle.desk_base.specs.Words.{is_name, is_word}
use Rattle.toml.specs.Data.{Members, get_member, as_str}
use Rattle.schema_core.specs.declared.fault.SchemaFault.{SchemaFault}
use Rattle.schema_core.specs.declared.fault.SchemaFault.TheVariants.{NotToml, UnknownKey, MissingKey, WrongKind}
use Rattle.schema_core.specs.declared.fault.SchemaFault.TheVariants.{BadName, BadCount, Twice, NoMemory}
use Rattle.schema_core.specs.Reading.{keys_known, texts_of}

-- the key is not there: 1 is `name`, and 2 is `attributes`
abbrev pub IsMissing : Members → ℕ → Type 0
IsMissing members key = ((key ≡ 1) × (get_member (codes "name") members ≡ None))
    ⊎ ((key ≡ 2) × (get_member (codes "attributes") members ≡ None))

-- the value at `name`, 1, is no string, or that at `attributes`, 2, is no array of strings
abbrev pub IsOfOtherKind : Members → ℕ → Type 0
IsOfOtherKind members key =
    ((key ≡ 1) × IsSomeAnd (get_member (codes "name") members) (λ value. as_str value ≡ None))
    ⊎ ((key ≡ 2) × IsSomeAnd (get_member (codes "attributes") members) (λ value. texts_of value ≡ None))

-- the string at `name` is no name
pub record HasBadName (members : Members) : Type 0 where
  pub name : List ℕ
  pub stands : option_and_then as_str (get_member (codes "name") members) ≡ Some name
  pub bad : is_name name ≡ false

-- these are the strings at `attributes`
abbrev pub HasAttributes : Members → List (List ℕ) → Type 0
HasAttributes members attributes = option_and_then texts_of (get_member (codes "attributes") members) ≡ Some attributes

-- the attribute at this position, from 1, is no word
pub record HasBadWord (members : Members) (position : ℕ) : Type 0 where
  pub attributes : List (List ℕ)
  pub stand : HasAttributes members attributes
  pub place : ℕ
  pub counted : position ≡ place + 1
  pub bad : IsSomeAnd (slice_get attributes place) (λ attribute. is_word attribute ≡ false)

-- there are so many attributes: none, or more than 48
pub record HasBadCount (members : Members) (count : ℕ) : Type 0 where
  pub attributes : List (List ℕ)
  pub stand : HasAttributes members attributes
  pub counted : count ≡ length attributes
  pub bad : (count ≡ 0) ⊎ (MAX_ATTRIBUTES < count)

-- the attribute at this position, from 1, equals an earlier one
pub record HasTwice (members : Members) (position : ℕ) : Type 0 where
  pub attributes : List (List ℕ)
  pub stand : HasAttributes members attributes
  pub earlier : ℕ
  pub place : ℕ
  pub counted : position ≡ place + 1
  pub before : earlier < place
  pub attribute : List ℕ
  pub first : slice_get attributes earlier ≡ Some attribute
  pub again : slice_get attributes place ≡ Some attribute

-- what a fault says of a document
abbrev pub IsOf : Members → SchemaFault → Type 0
IsOf _ NotToml = ⊥
IsOf members UnknownKey = keys_known members ≡ false
IsOf members (MissingKey key) = IsMissing members key
IsOf members (WrongKind key) = IsOfOtherKind members key
IsOf members (BadName position) = ((position ≡ 0) × HasBadName members) ⊎ HasBadWord members position
IsOf members (BadCount count) = HasBadCount members count
IsOf members (Twice position) = HasTwice members position
IsOf _ NoMemory = ⊥

-- what a fault says of bytes: they write no document, or one of which the fault is
abbrev pub HasCause : Option Members → SchemaFault → Type 0
HasCause None fault = fault ≡ NotToml
HasCause (Some members) fault = IsOf members fault

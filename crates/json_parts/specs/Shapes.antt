-- The shapes of the JSON values that are printed.
use Rattle.std.specs.Prelude.{ℕ, List, [], ◌∷◌, Option, Some, None}
use Rattle.serde_json.specs.Data.{Data, Members, member, no_members, array, null, number, object, unsigned}
use Rattle.serde_json.specs.View.{items_of}
pub use Rattle.desk_base.specs.Texts.{line}

-- an array of these values
abbrev pub list_of : List Data → Data
list_of values = array (items_of values)

-- the members of an object, from its keys with their values
abbrev pub members_from : List (List ℕ × Data) → Members
members_from [] = no_members
members_from (pair ∷ others) = member pair.0 pair.1 (members_from others)

-- an object of these keys, which are given in byte order, with their values
abbrev pub object_of : List (List ℕ × Data) → Data
object_of pairs = object (members_from pairs)

-- a whole number
abbrev pub whole : ℕ → Data
whole n = number (unsigned n)

-- the value of what may be missing: null where it is
abbrev pub or_null : {A : Type 0} → (A → Data) → Option A → Data
or_null shown None = null
or_null shown (Some thing) = shown thing

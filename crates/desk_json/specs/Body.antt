-- The object that a body is, and what stands at its keys (docs/api.md, Bodies).
use Rattle.std.specs.Prelude.{ℕ, List, [], not, find, Option, Some, None, Ok, Err}
use Rattle.serde_json.specs.Data.{Data, Members}
use Rattle.serde_json.specs.Find.{as_object, get}
use Rattle.desk_base.specs.Places.{has_text}
use Rattle.desk_json.specs.Checked.{Checked, ◌>>=◌, some_or}
use Rattle.json_parts.specs.Parts.{json_of, keys_of}
use Rattle.desk_json.specs.declared.forms.InBody.{InBody}
use Rattle.desk_json.specs.declared.fault.JsonFault.TheVariants.{NotJson, Missing, WrongKind, Unknown}

-- the first key in byte order that is none of these
abbrev pub first_unknown : List (List ℕ) → Members → Option (List ℕ)
first_unknown keys members = find (λ key. not (has_text keys key)) (keys_of members)

-- the object, where it has no other keys than these
abbrev pub known : Option (List ℕ) → Data → Checked Data
known None fields = Ok fields
known (Some key) fields = Err (Unknown key)

-- a body: JSON, whose value is an object, with no other keys than these
abbrev pub object_in : List (List ℕ) → List ℕ → Checked Data
object_in keys body = do
  value ← some_or NotJson (json_of body)
  members ← some_or (WrongKind []) (as_object value)
  known (first_unknown keys members) value

-- what stands at a key
abbrev pub at_key : {A : Type 0} → List ℕ → (Data → Option A) → Data → Checked A
at_key key form fields = do
  value ← some_or (Missing key) (get key fields)
  some_or (WrongKind key) (form value)

-- what is read of what was found at a key that may be left out
abbrev pub found_or : {A : Type 0} → List ℕ → (Data → Option A) → A → Option Data → Checked A
found_or key form absent None = Ok absent
found_or key form absent (Some value) = some_or (WrongKind key) (form value)

-- what stands at a key, or this where the key is left out
abbrev pub at_key_or : {A : Type 0} → List ℕ → (Data → Option A) → A → Data → Checked A
at_key_or key form absent fields = found_or key form absent (get key fields)

-- the context in which the parts of a body are read, which says nothing
abbrev pub in_body : InBody
in_body = record {}

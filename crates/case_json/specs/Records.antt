-- The record of a case, with its confirmed attributes.
use Rattle.std.specs.Prelude.{ℕ, ◌==◌, List, length, map, Bool, Option, Some, codes}
use Rattle.serde_json.specs.Data.{Data}
use Rattle.desk_base.specs.Places.{flags_of}
use Rattle.fix_model.specs.declared.state.State.{State}
use Rattle.fix_model.specs.States.{confirmed_cell}
use Rattle.case_json.specs.Attributes.{place_in}
use Rattle.json_parts.specs.Parts.{◌>>=◌, only_if, list_in, field, texts_in}

-- the flags of attributes that are listed by their words
abbrev pub flags_in : List (List ℕ) → Data → Option (List Bool)
flags_in attributes value = do
  places ← list_in (place_in attributes) value
  Some (flags_of (length attributes) places)

-- the typed texts, one for each attribute
abbrev pub record_in : List (List ℕ) → Data → Option (List (List ℕ))
record_in attributes value = do
  texts ← texts_in value
  only_if (λ typed. length typed == length attributes) texts

-- the record with its confirmed attributes
abbrev pub state_in : List (List ℕ) → Data → Option State
state_in attributes value = do
  typed ← field (codes "record") (record_in attributes) value
  confirmed ← field (codes "confirmed") (flags_in attributes) value
  Some (record { typed = typed; cells = map confirmed_cell confirmed })

-- How the fault of a body is printed (docs/api.md, Faults of a body).
use Rattle.std.specs.Prelude.{ℕ, List, [], ◌∷◌, codes, Option}
use Rattle.serde_json.specs.Data.{Data, string}
use Rattle.desk_json.specs.Refusals.{error, no_memory, plain, said}
use Rattle.json_parts.specs.Shapes.{object_of}
use Rattle.desk_json.specs.declared.fault.JsonFault.{JsonFault}
use Rattle.desk_json.specs.declared.fault.JsonFault.TheVariants.{NotJson, Missing, WrongKind, Unknown, NoMemory}

-- a fault of this kind, at this key, with a sentence for a person where there is one
abbrev pub fault_at : List ℕ → List ℕ → Option (List ℕ) → Data
fault_at kind key sentence = object_of (
    error (codes "json") ∷ (codes "fault", string kind) ∷ (codes "key", string key) ∷ said sentence)

-- a fault, with a sentence for a person where there is one
abbrev pub fault_saying : JsonFault → Option (List ℕ) → Data
fault_saying NotJson = fault_at (codes "not_json") []
fault_saying (Missing key) = fault_at (codes "missing") key
fault_saying (WrongKind key) = fault_at (codes "wrong_kind") key
fault_saying (Unknown key) = fault_at (codes "unknown") key
fault_saying NoMemory = plain no_memory

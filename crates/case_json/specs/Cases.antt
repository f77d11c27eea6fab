-- The case of a JSON text: attributes, rules over them with their master data, and a record
-- (docs/formats.md, The case of `fixdesk once`).
use Rattle.std.specs.Prelude.{◌≡◌, ◌≢◌, ℕ, ◌||◌, List, [], ◌∷◌, length, AllPairs, Bool, if◌then◌else◌, Option, Some}
use Rattle.std.specs.Prelude.{None, codes}
use Rattle.serde_json.specs.Data.{Data}
use Rattle.fix_model.specs.States.{Fits}
use Rattle.fix_model.specs.Valid.{IsValid}
use Rattle.case_json.specs.declared.case.Case.{Case}
use Rattle.case_json.specs.Attributes.{attributes_in}
use Rattle.case_json.specs.Kits.{kit_in}
use Rattle.json_parts.specs.Parts.{◌>>=◌, has_keys, field, json_of}
use Rattle.case_json.specs.Records.{state_in}

-- the keys of a case that lists no folded attributes
abbrev pub case_keys : List (List ℕ)
case_keys = codes "attributes" ∷ codes "confirmed" ∷ codes "masters" ∷ codes "record" ∷ codes "rules" ∷ []

-- the keys of one that lists them
abbrev pub folded_case_keys : List (List ℕ)
folded_case_keys =
    codes "attributes" ∷ codes "confirmed" ∷ codes "folded" ∷ codes "masters" ∷ codes "record" ∷ codes "rules" ∷ []

-- an object with exactly the keys of the one or of the other
abbrev pub has_case_keys : Data → Bool
has_case_keys value = has_keys case_keys value || has_keys folded_case_keys value

-- what stands at these keys
abbrev pub parts_of : Data → Option Case
parts_of value = do
  attributes ← field (codes "attributes") attributes_in value
  kit ← kit_in attributes value
  state ← state_in attributes value
  Some (record { attributes = attributes; kit = kit; state = state })

-- the parts of a case, of an object with exactly the keys of one
abbrev pub parts_in : Data → Option Case
parts_in value = if has_case_keys value then parts_of value else None

-- the value is this case: it has these parts, no attribute stands twice, and the kit is valid
pub record IsCaseOf (value : Data) (case : Case) : Type 0 where
  pub parts : parts_in value ≡ Some case
  pub distinct : AllPairs (λ word later. word ≢ later) case.attributes
  pub valid : IsValid case.kit

-- the parts fit together: there is a word for each attribute of the kit, and the record is over the kit
pub record PartsFit (case : Case) : Type 0 where
  pub named : length case.attributes ≡ case.kit.width
  pub fits : Fits case.kit case.state

-- the text is no JSON
abbrev pub IsNotJson : List ℕ → Type 0
IsNotJson bytes = json_of bytes ≡ None

-- the text is JSON whose value is this case
abbrev pub IsCaseIn : List ℕ → Case → Type 0
IsCaseIn bytes case = (value : Data) × (json_of bytes ≡ Some value) × IsCaseOf value case

-- the text is JSON whose value is no case
abbrev pub IsNoCase : List ℕ → Type 0
IsNoCase bytes = (value : Data) × (json_of bytes ≡ Some value) × ((case : Case) → ¬ IsCaseOf value case)

-- The rules of a case with their master data and its folded attributes, valid or not.
use Rattle.std.specs.Prelude.{ℕ, List, [], length, Bool, Option, Some, None, codes}
use Rattle.serde_json.specs.Data.{Data}
use Rattle.serde_json.specs.Find.{get}
use Rattle.desk_base.specs.Places.{flags_of}
use Rattle.fix_model.specs.declared.kit.Kit.{Kit}
use Rattle.case_json.specs.Masters.{table_in}
use Rattle.json_parts.specs.Parts.{◌>>=◌, list_in, field}
use Rattle.case_json.specs.Records.{flags_in}
use Rattle.case_json.specs.Rules.{rule_in}

-- the flags of the folded attributes, none of them where there is no such list
abbrev pub folded_of : List (List ℕ) → Option Data → Option (List Bool)
folded_of attributes None = Some (flags_of (length attributes) [])
folded_of attributes (Some value) = flags_in attributes value

-- the rules and masters over these attributes
abbrev pub kit_in : List (List ℕ) → Data → Option Kit
kit_in attributes value = do
  rules ← field (codes "rules") (list_in (rule_in attributes)) value
  masters ← field (codes "masters") (list_in table_in) value
  folded ← folded_of attributes (get (codes "folded") value)
  Some (record { width = length attributes; rules = rules; masters = masters; folded = folded })

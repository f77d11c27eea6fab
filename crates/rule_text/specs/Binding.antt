-- What a rulebook binds to over masters: a kit, or the first name in it that no master or column has.
use Rattle.std.specs.Prelude.{ℕ, ◌+◌, ◌<◌, ◌≤◌, ◌≢◌, List, [], ◌∷◌, length, map, position, slice_index_or}
use Rattle.std.specs.Prelude.{All, AllPairs, Option, Some, None, unwrap_or, Result, Ok, Err}
use Rattle.std.specs.List.Sorted.{IsStrictlyIncreasing}
use Rattle.std.specs.Option.{option_or, option_map_or}
use Rattle.std.specs.Str.{bytes_eq}
use Rattle.fix_model.specs.declared.kit.Kit.{Kit}
use Rattle.fix_model.specs.declared.rule.Rule.{Rule}
use Rattle.schema_core.specs.declared.schema.Schema.{Schema}
use Rattle.master_rows.specs.declared.master.Master.{Master}
use Rattle.master_rows.specs.Master.{IsMasterWithin}
use Rattle.desk_base.specs.declared.limits.TheConstants.{MAX_MASTERS, MAX_SHEET_ROWS}
use Rattle.desk_base.specs.Places.{flags_of, place_of}
use Rattle.rule_text.specs.declared.binding.BindFault.{BindFault}
use Rattle.rule_text.specs.declared.binding.BindFault.TheVariants.{NoMaster, NoColumn}
use Rattle.rule_text.specs.declared.rulebook.RuleLine.{RuleLine}
use Rattle.rule_text.specs.declared.rulebook.Rulebook.{Rulebook}

-- at most 8 masters of any size under distinct names
pub record AreMasters (masters : List (List ℕ × Master)) : Type 0 where
  pub few : length masters ≤ MAX_MASTERS
  pub each : All (λ master. IsMasterWithin MAX_SHEET_ROWS master.1) masters
  pub named_apart : AllPairs (λ one other. one.0 ≢ other.0) masters

-- attributes of the schema, in ascending order
pub record AreFolded (schema : Schema) (folded : List ℕ) : Type 0 where
  pub ascending : IsStrictlyIncreasing folded
  pub within : All (λ attribute. attribute < length schema.attributes) folded

-- the place of the master of this name, from 0
abbrev pub master_of : List (List ℕ × Master) → List ℕ → Option ℕ
master_of masters name = position (λ master. bytes_eq name master.0) masters

-- the master at a place; past the last, one without columns
abbrev pub master_at : List (List ℕ × Master) → ℕ → Master
master_at masters place =
    (slice_index_or masters place ([], record { columns = []; grid = record { columns = 0; rows = [] } })).1

-- the place of the master's column of this name, from 0
abbrev pub column_of : Master → List ℕ → Option ℕ
column_of master name = place_of master.columns name

-- what is wrong where a rule names this column: the master has none of this name
abbrev pub column_fault : ℕ → Master → ℕ → List ℕ → Option BindFault
column_fault number master place name =
    option_map_or (λ column. None) (column_of master name) (Some (NoColumn number place))

-- what is wrong first with the keys from this position on
abbrev pub keys_fault : ℕ → Master → ℕ → List (ℕ × List ℕ) → Option BindFault
keys_fault number master place [] = None
keys_fault number master place (key ∷ rest) =
    option_or (column_fault number master place key.1) (keys_fault number master (place + 1) rest)

-- what is wrong first with the columns of a rule: those of its keys count from 1, and that of its head is 0
abbrev pub columns_fault : ℕ → Master → RuleLine → Option BindFault
columns_fault number master line =
    option_or (keys_fault number master 1 line.keys) (column_fault number master 0 line.from)

-- what is wrong first with the rule of this number
abbrev pub line_fault : List (List ℕ × Master) → ℕ → RuleLine → Option BindFault
line_fault masters number line =
    option_map_or (λ place. columns_fault number (master_at masters place) line) (master_of masters line.master)
    (Some (NoMaster number))

-- what is wrong first with the rules from this number on
abbrev pub first_fault : List (List ℕ × Master) → ℕ → List RuleLine → Option BindFault
first_fault masters number [] = None
first_fault masters number (line ∷ rest) =
    option_or (line_fault masters number line) (first_fault masters (number + 1) rest)

-- a key with the place of its column, which is there
abbrev pub bound_key : Master → ℕ × List ℕ → ℕ × ℕ
bound_key master key = (key.0, unwrap_or (column_of master key.1) 0)

-- the rule of a line over the master at this place
abbrev pub rule_over : Master → ℕ → RuleLine → Rule
rule_over master place line = record {
  keys = map (bound_key master) line.keys;
  head = line.head;
  from = unwrap_or (column_of master line.from) 0;
  master = place;
  conds = line.conds;
}

-- the rule of a line, whose master is there
abbrev pub rule_of : List (List ℕ × Master) → RuleLine → Rule
rule_of masters line =
    let place = unwrap_or (master_of masters line.master) 0 in rule_over (master_at masters place) place line

-- the rules, and the rows of the masters, each in their order
abbrev pub kit_of : Rulebook → Schema → List (List ℕ × Master) → List ℕ → Kit
kit_of rulebook schema masters folded = record {
  width = length schema.attributes;
  rules = map (rule_of masters) rulebook.lines;
  masters = map (λ master. master.1.grid) masters;
  folded = flags_of (length schema.attributes) folded;
}

-- what a rulebook binds to: what is wrong first, or else the kit
unfoldable pub bound : Rulebook → Schema → List (List ℕ × Master) → List ℕ → Result Kit BindFault
bound rulebook schema masters folded =
    option_map_or Err (first_fault masters 1 rulebook.lines) (Ok (kit_of rulebook schema masters folded))

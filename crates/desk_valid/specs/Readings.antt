-- What published bodies read as, where they read.
use Rattle.std.specs.Prelude.{ℕ, List, ◌∷◌, [], length, Option, Some, None, option_map, option_and_then, slice_get}
use Rattle.std.specs.Prelude.{Result, Ok, Err}
use Rattle.desk_words.specs.declared.rows.rulebook.RulebookRow.{RulebookRow}
use Rattle.desk_words.specs.declared.rows.text.TextRow.{TextRow}
use Rattle.desk_words.specs.Tables.{Published}
use Rattle.master_rows.specs.declared.master.Master.{Master}
use Rattle.master_rows.specs.Sheet.{read_sheet}
use Rattle.rule_text.specs.Reading.{read_rules}
use Rattle.schema_core.specs.declared.schema.Schema.{Schema}
use Rattle.schema_core.specs.Reading.{schema_of}
use Rattle.desk_valid.specs.declared.reading.Rules.{Rules}

-- what was read, or nothing where there was a fault
abbrev pub read : {A E : Type 0} → Result A E → Option A
read (Ok value) = Some value
read (Err fault) = None

-- the schema of a row
abbrev pub schema_in : TextRow → Option Schema
schema_in row = read (schema_of row.body)

-- the schema at a place
abbrev pub schema_at : Published → ℕ → Option Schema
schema_at published place = option_and_then schema_in (slice_get published.schemas place)

-- the master of a row, under its name
abbrev pub master_in : TextRow → Option (List ℕ × Master)
master_in row = option_map (λ master. (row.name, master)) (read (read_sheet row.body))

-- the master at a place, under its name
abbrev pub master_at : Published → ℕ → Option (List ℕ × Master)
master_at published place = option_and_then master_in (slice_get published.masters place)

-- the rules that a body has over a schema
abbrev pub rules_over : List ℕ → Schema → Option Rules
rules_over body schema =
    option_map (λ rulebook. record { schema = schema; rulebook = rulebook }) (read (read_rules body schema))

-- the rules of a row, over the schema that it names
abbrev pub rules_in : Published → RulebookRow → Option Rules
rules_in published row = option_and_then (rules_over row.body) (schema_at published row.schema)

-- the rules at a place
abbrev pub rules_at : Published → ℕ → Option Rules
rules_at published place = option_and_then (rules_in published) (slice_get published.rulebooks place)

-- the values of all, where each has one
abbrev pub all_of : {A : Type 0} → List (Option A) → Option (List A)
all_of [] = Some []
all_of (first ∷ rest) = option_and_then (λ value. option_map (λ values. value ∷ values) (all_of rest)) first

-- how many attributes an edition at a place has
abbrev pub width_at : Published → ℕ → Option ℕ
width_at published place =
    option_map (λ rules. length rules.schema.attributes) (option_and_then (λ row. rules_at published row.rulebook)
    (slice_get published.editions place))

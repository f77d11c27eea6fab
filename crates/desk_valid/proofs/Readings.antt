-- What the bodies of rows read as.
use Rattle.std.proofs.Common.{◌≡◌, ℕ, List, map, Option, Some, None, sym, ap, ◌∙◌, refl}
use Rattle.std.specs.Prelude.{is_some, option_map, option_and_then, slice_get, Result, Ok, Err}
use Rattle.std.proofs.lemmas.Option.{option_and_then_some, slice_get-map}
use Rattle.desk_base.proofs.Options.{None-from_is_some}
use Rattle.desk_words.specs.declared.rows.rulebook.RulebookRow.{RulebookRow}
use Rattle.desk_words.specs.declared.rows.text.TextRow.{TextRow}
use Rattle.desk_words.specs.Tables.{Published}
use Rattle.master_rows.specs.declared.master.Master.{Master}
use Rattle.master_rows.specs.Sheet.{read_sheet}
use Rattle.rule_text.specs.declared.rulebook.Rulebook.{Rulebook}
use Rattle.rule_text.specs.Reading.{read_rules}
use Rattle.schema_core.specs.declared.schema.Schema.{Schema}
use Rattle.schema_core.specs.Reading.{schema_of}
use Rattle.schema_core.specs.Schemas.{IsSchema}
use Rattle.schema_core.proofs.Sound.{IsSchema-from_bytes}
use Rattle.desk_valid.specs.declared.reading.Rules.{Rules}
use Rattle.desk_valid.specs.Readings.{master_at, master_in, read, rules_in, schema_at, schema_in}
use Rattle.desk_valid.specs.ReadTables.{found_at, header_at, header_in, header_of}

-- what was read was read
pub Ok-from_read : {A E : Type 0} (result : Result A E) (value : A) → read result ≡ Some value → result ≡ Ok value
Ok-from_read (Ok found) value is = cc
Ok-from_read (Err fault) value is = absurd (cc)

-- what stands at a place of a list that is made row by row
pub found_at-map : {A B : Type 0} (f : A → Option B) (rows : List A) (place : ℕ)
    → found_at (map f rows) place ≡ option_and_then f (slice_get rows place)
found_at-map f rows place =
    ap (λ found. option_and_then (λ one. one) found) (slice_get-map f rows place)
    ∙ elim (slice_get rows place) as (λ found. option_and_then (λ one. one) (option_map f found) ≡ option_and_then f
    found) [ None ↦ refl | Some row ↦ refl ]

-- what is read of a row is a schema
pub IsSchema-read : (row : TextRow) (schema : Schema) → schema_in row ≡ Some schema → IsSchema schema
IsSchema-read row schema is = IsSchema-from_bytes row.body schema (Ok-from_read (schema_of row.body) schema is)

-- so is the schema at a place
pub IsSchema-at : (rows : Published) (place : ℕ) (schema : Schema) → schema_at rows place ≡ Some schema
    → IsSchema schema
IsSchema-at rows place schema is =
    option_and_then_some schema_in (slice_get rows.schemas place) schema is
    (λ row stands reads. IsSchema-read row schema reads)

-- what was found among the schemas is the schema at the place
pub schema_at-found : (rows : Published) (schemas : List (Option Schema)) (place : ℕ) (schema : Schema)
    → schemas ≡ map schema_in rows.schemas
    → Some schema ≡ found_at schemas place → schema_at rows place ≡ Some schema
schema_at-found rows schemas place schema are is =
    sym (is ∙ ap (λ (one : List (Option Schema)). found_at one place) are ∙ found_at-map schema_in rows.schemas place)

-- the rules of a row, once its schema and its rulebook are read
pub rules_in-read : (rows : Published) (row : RulebookRow) (schema : Schema) (found : Option Rulebook)
    → schema_at rows row.schema ≡ Some schema → found ≡ read (read_rules row.body schema)
    → option_map (λ rulebook. let rules : Rules = record { schema = schema; rulebook = rulebook } in rules) found ≡
    rules_in rows row
rules_in-read rows row schema found is reads = rw (is, reads) refl

-- a master reads where its header does
is_some-header_in : (row : TextRow) → is_some (header_in row) ≡ is_some (master_in row)
is_some-header_in row =
    let named : Option Master → Option (List ℕ × Master) = λ found. option_map (λ master. (row.name, master)) found in
    elim (read (read_sheet row.body)) as (λ found. is_some (option_map header_of found) ≡ is_some (named found))
    [ None ↦ refl | Some master ↦ refl ]

-- as a place has one
pub is_some-header_at : (rows : Published) (place : ℕ) → is_some (header_at rows place) ≡ is_some (master_at rows place)
is_some-header_at rows place =
    elim (slice_get rows.masters place) as (λ found. is_some (option_and_then header_in found) ≡ is_some
    (option_and_then master_in found)) [ None ↦ refl | Some row ↦ is_some-header_in row ]

-- where a place has no header, no master reads there
pub master_at-none : (rows : Published) (place : ℕ) → header_at rows place ≡ None → master_at rows place ≡ None
master_at-none rows place none = None-from_is_some (master_at rows place)
    (sym (is_some-header_at rows place) ∙ ap is_some none)

-- What the files of words have: one test a line, in their order.
use Rattle.std.specs.Prelude.{◌≡◌, ℕ, Bool, List, [], ◌∷◌, length, map, Option, Some, None, Result, Ok, Err}
use Rattle.std.specs.Prelude.{if◌then◌else◌}
use Rattle.std.specs.Borrow.{Bor}
use Rattle.std.specs.List.{list_all, list_any}
use Rattle.std.specs.Str.{bytes_eq}
use Rattle.desk_base.specs.Places.{has_text}
use Rattle.desk_base.specs.declared.limits.TheConstants.{MAX_SHEET_ROWS}
use Rattle.master_rows.specs.Sheet.{sheet_within}
use Rattle.master_rows.specs.declared.master.Master.{Master}
use Rattle.rule_text.specs.Binding.{AreMasters}
use Rattle.rule_text.specs.Reading.{read_rules}
use Rattle.rule_text.specs.Rulebooks.{IsRulebook}
use Rattle.schema_core.specs.Reading.{schema_of}
use Rattle.schema_core.specs.Schemas.{IsSchema}
use Rattle.schema_core.specs.declared.schema.Schema.{Schema}
use Rattle.clean_run.specs.Files.{Folder}
use Rattle.clean_run.specs.declared.ended.Status.{Status}
use Rattle.clean_run.specs.declared.ended.Status.TheVariants.{Words as Unfit, Unreadable, Refused}
use Rattle.clean_run.specs.declared.parts.Chosen.{Chosen}
use Rattle.clean_run.specs.declared.parts.Parts.{Parts}
use Rattle.clean_run.specs.declared.parts.Sources.{Sources}
use Rattle.clean_run.specs.declared.words.SheetWord.{SheetWord}
use Rattle.clean_run.specs.declared.words.Words.{Words}

infixl 10 ◌>>=◌
-- what is made of a value, where there is one
abbrev pub ◌>>=◌ : {A B : Type 0} → Result A Status → (A → Result B Status) → Result B Status
Ok value >>= next = next value
Err status >>= next = Err status

-- what is read, where it fits
abbrev pub accepted : {T E : Type 0} → Result T E → Result T Status
accepted (Ok value) = Ok value
accepted (Err fault) = Err Refused

-- what a reader makes of the bytes of a file, where there are any
abbrev pub in_file : {T E : Type 0} → (List ℕ → Result T E) → Option (List ℕ) → Result T Status
in_file reader None = Err Unreadable
in_file reader (Some bytes) = accepted (reader bytes)

-- this attribute is one of the names
abbrev pub is_named : List (Bor (List ℕ)) → List ℕ → Bool
is_named names attribute = list_any (λ name. bytes_eq attribute name.now) names

-- each name is that of an attribute
abbrev pub are_attributes : List (List ℕ) → List (Bor (List ℕ)) → Bool
are_attributes attributes names = list_all (λ name. has_text attributes name.now) names

-- for each attribute of the schema whether it is named, where each name is that of an attribute
abbrev pub flags_named : Schema → List (Bor (List ℕ)) → Result (List Bool) Status
flags_named schema names =
    if are_attributes schema.attributes names then Ok (map (is_named names) schema.attributes) else Err Unfit

-- for each attribute whether `--known` names it, and whether `--folded` does
abbrev pub chosen_of : Words → Schema → Result Chosen Status
chosen_of words schema = do
  known ← flags_named schema words.known
  folded ← flags_named schema words.folded
  Ok (record { known = known; folded = folded })

-- the masters in the files of their words, each with its name
abbrev pub masters_in : Folder → List SheetWord → Result (List (List ℕ × Master)) Status
masters_in folder [] = Ok []
masters_in folder (sheet ∷ sheets) = do
  master ← in_file (sheet_within MAX_SHEET_ROWS) (folder sheet.file.now)
  masters ← masters_in folder sheets
  Ok ((sheet.name, master) ∷ masters)

-- the rules over the schema, and the masters
abbrev pub sources_in : Words → Folder → Schema → Result Sources Status
sources_in words folder schema = do
  rules ← in_file (λ text. read_rules text schema) (folder words.rules.now)
  masters ← masters_in folder words.sheets
  Ok (record { rules = rules; masters = masters })

-- what the files of words have, or the status that tells the first test that fails
abbrev pub parts_in : Words → Folder → Result Parts Status
parts_in words folder = do
  schema ← in_file schema_of (folder words.schema.now)
  chosen ← chosen_of words schema
  sources ← sources_in words folder schema
  Ok (record { schema = schema; chosen = chosen; sources = sources })

-- there is a flag for each attribute
pub record AreChosen (schema : Schema) (chosen : Chosen) : Type 0 where
  pub known : length chosen.known ≡ length schema.attributes
  pub folded : length chosen.folded ≡ length schema.attributes

-- what is read is sound, there is a flag for each attribute, and the masters have distinct names
pub record AreParts (parts : Parts) : Type 0 where
  pub schema : IsSchema parts.schema
  pub chosen : AreChosen parts.schema parts.chosen
  pub rules : IsRulebook parts.schema parts.sources.rules
  pub masters : AreMasters parts.sources.masters

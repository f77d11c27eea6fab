-- Which words fit, and what they come to.
use Rattle.std.specs.Prelude.{◌≡◌, ◌≢◌, ◌⊎◌, ⊤, ℕ, ◌<◌, ◌≤◌, ◌||◌, ◌==◌, Bool, false, true, List, [], ◌∷◌, ◌++◌, length}
use Rattle.std.specs.Prelude.{map, codes}
use Rattle.std.specs.Prelude.{All, AllPairs, IfSome, Option, Some, None, unwrap_or, option_map}
use Rattle.std.specs.Borrow.{Bor}
use Rattle.std.specs.List.{list_any, slice_split}
use Rattle.std.specs.Option.{option_map_or}
use Rattle.std.specs.Str.{bytes_eq}
use Rattle.clap.specs.Words.{matched_of, raw_values}
use Rattle.clap.specs.declared.parser.matches.Found.{Found}
use Rattle.desk_base.specs.Texts.{bytes_of}
use Rattle.desk_base.specs.Words.{is_name}
use Rattle.desk_base.specs.declared.limits.TheConstants.{MAX_COLUMN, MAX_MASTERS}
use Rattle.master_rows.specs.Mark.{begins_with_mark}
use Rattle.sheet_blocks.specs.Sheets.{IsDelimiter}
use Rattle.clean_run.specs.declared.ended.Ended.{Ended}
use Rattle.clean_run.specs.declared.ended.Status.TheVariants.{NoMemory, Words as Unfit}
use Rattle.clean_run.specs.declared.words.SheetWord.{SheetWord}
use Rattle.clean_run.specs.declared.words.Wanted.{Wanted}
use Rattle.clean_run.specs.declared.words.Wanted.TheVariants.{Clean, Show}
use Rattle.clean_run.specs.declared.words.Words.{Words}

-- ---- what the values of words come to

-- the names in a text: what stands between its commas
abbrev pub names_in : List ℕ → List (List ℕ)
names_in text = slice_split (λ byte. byte == 44) text

-- the same, or none where there is no text
abbrev pub names_of : Option (List ℕ) → List (List ℕ)
names_of text = option_map_or names_in text []

-- the one byte of a text, or a comma where there is no text
abbrev pub IsByteOf : Option (List ℕ) → ℕ → Type 0
IsByteOf None byte = byte ≡ 44
IsByteOf (Some text) byte = text ≡ byte ∷ []

-- a master's word: its name, `=`, and the name of its file
abbrev pub sheet_word : SheetWord → List ℕ
sheet_word sheet = sheet.name ++ 61 ∷ sheet.file.now

-- the words of masters among those that were matched
abbrev pub values_of : Found → List (List ℕ)
values_of found = unwrap_or (option_map raw_values (matched_of found (codes "NAME=SHEET"))) []

-- the words are these values, by the names of their options and places, and these words of masters
pub record AreOf (value : List ℕ → Option (List ℕ)) (sheets : List (List ℕ)) (words : Words) : Type 0 where
  pub schema : words.schema.now ≡ unwrap_or (value (codes "SCHEMA")) []
  pub rules : words.rules.now ≡ unwrap_or (value (codes "RULES")) []
  pub sheets_are : map sheet_word words.sheets ≡ sheets
  pub known : bytes_of words.known ≡ names_in (unwrap_or (value (codes "known")) [])
  pub folded : bytes_of words.folded ≡ names_of (value (codes "folded"))
  pub delimiter : IsByteOf (value (codes "delimiter")) words.delimiter
  pub changes : option_map (λ file. file.now) words.changes ≡ value (codes "changes")
  pub verdict : words.verdict ≡ value (codes "verdict")

-- ---- which fit

-- no master stands twice
abbrev pub AreNamedApart : List SheetWord → Type 0
AreNamedApart sheets = AllPairs (λ one other. one.name ≢ other.name) sheets

-- a master of this name is among these
abbrev pub is_given : List SheetWord → List ℕ → Bool
is_given sheets name = list_any (λ sheet. bytes_eq name sheet.name) sheets

-- at most 8 masters, under distinct names that are such as masters have on a desk
pub record AreSheets (sheets : List SheetWord) : Type 0 where
  pub few : length sheets ≤ MAX_MASTERS
  pub named_apart : AreNamedApart sheets
  pub named : All (λ sheet. is_name sheet.name ≡ true) sheets

-- the name of a column of verdicts: 1 to 64 bytes that begin with no byte order mark
pub record IsVerdictName (name : List ℕ) : Type 0 where
  pub some : 1 ≤ length name
  pub short : length name ≤ MAX_COLUMN
  pub unmarked : begins_with_mark name ≡ false

-- a master's sheet is in this file
abbrev pub is_sheet : List SheetWord → List ℕ → Bool
is_sheet sheets file = list_any (λ sheet. bytes_eq file sheet.file.now) sheets

-- this file is read
abbrev pub is_read : Words → List ℕ → Bool
is_read words file = bytes_eq file words.schema.now || bytes_eq file words.rules.now || is_sheet words.sheets file

-- the names of the files that are written beside the clean sheet
abbrev pub files_written : Option (Bor (List ℕ)) → List (List ℕ)
files_written None = []
files_written (Some file) =
    file.now ∷ (file.now ++ codes ".conflicts") ∷ (file.now ++ codes ".dissents") ∷ []

-- the words fit
pub record IsFit (words : Words) : Type 0 where
  pub sheets : AreSheets words.sheets
  pub delimiter : IsDelimiter words.delimiter
  pub ascii : words.delimiter < 128
  pub verdict : IfSome words.verdict IsVerdictName
  pub named : IfSome words.changes (λ file. file.now ≢ [])
  pub unread : All (λ file. is_read words file ≡ false) (files_written words.changes)

-- the same, where a sheet is to be cleaned
abbrev pub AreFit : Wanted → Type 0
AreFit (Clean words) = IsFit words
AreFit (Show text) = ⊤

-- there was no memory, or the words do not fit
abbrev pub IsUnfit : Ended → Type 0
IsUnfit ended = (ended.status ≡ NoMemory) ⊎ (ended.status ≡ Unfit)

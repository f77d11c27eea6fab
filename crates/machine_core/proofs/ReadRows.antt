-- Rows as they are read, and the masters of an edition of valid tables.
use Rattle.std.proofs.Common.{◌≡◌, ◌∙◌, ℕ, ◌<◌, Bool, true, List, [], ◌∷◌, length, get_or, Option, Some, inl, inr, refl}
use Rattle.std.proofs.Common.{ap, arith, subst}
use Rattle.std.specs.Prelude.{All, find, is_some, option_map, slice_get, Result, Ok, Err}
use Rattle.std.specs.Str.{bytes_eq}
use Rattle.std.proofs.lemmas.Bool.{cases_Bool}
use Rattle.std.proofs.lemmas.List.{get_or_default}
use Rattle.std.proofs.lemmas.List.Elements.{All-head, All-tail}
use Rattle.std.proofs.lemmas.Option.{same_Some}
use Rattle.desk_words.specs.declared.rows.edition.EditionRow.{EditionRow}
use Rattle.desk_words.specs.declared.rows.text.TextRow.{TextRow}
use Rattle.desk_words.specs.Tables.{Published, Rows, published_of}
use Rattle.desk_valid.specs.Readings.{read}
use Rattle.desk_valid.specs.Valid.{AreValid}
use Rattle.desk_valid.proofs.First.{slice_get-read}
use Rattle.master_rows.specs.declared.error.SheetFault.{SheetFault}
use Rattle.master_rows.specs.declared.master.Master.{Master}
use Rattle.master_rows.specs.Sheet.{read_sheet}
use Rattle.machine_core.specs.Checked.{value_or, run}
use Rattle.machine_core.specs.Deriving.{master_of}
use Rattle.machine_core.specs.Faults.{sheet_refusal}
use Rattle.machine_core.specs.Steward.AddEdition.{master_name}
use Rattle.machine_core.specs.Views.{edition_at}

-- the row that is read at the place of an edition
pub edition-read : (published : Published) (place : ℕ) (row : EditionRow) → place < length published.editions
    → row ≡ get_or published.editions place row → row ≡ edition_at published place
edition-read published place row within is = is ∙ get_or_default published.editions place row _ within

-- a row that is read at the place of one stands there
pub row-stands : {T : Type 0} {rows items : List T} {place : ℕ} {row : T} → items ≡ rows → place < length rows
    → row ≡ get_or items place row → slice_get rows place ≡ Some row
row-stands same within is = slice_get-read same (omega (arith, within, ap length same)) is

-- what is found is one of those that were looked through
pub find-all : (P : ℕ → Type 0) (test : ℕ → Bool) (items : List ℕ) (found : ℕ) → find test items ≡ Some found
    → All P items → P found
find-all P test [] found is all = absurd (cc)
find-all P test (first ∷ rest) found is all = elim (cases_Bool (test first)) [
  | inl here ↦ subst P (same_Some first found (rw here at is)) (All-head P first rest all)
  | inr other ↦ find-all P test rest found (rw other at is) (All-tail P first rest all)
]

-- a master under a name
abbrev named : List ℕ → Option Master → Option (List ℕ × Master)
named name found = option_map (λ master. (name, master)) found

-- what has a name reads
some-read : (name : List ℕ) (result : Result Master SheetFault)
    → is_some (named name (read result)) ≡ true
    → (sheet : Master) × (result ≡ Ok sheet)
some-read name (Ok sheet) there = (sheet, refl)
some-read name (Err fault) there = absurd (cc)

-- the master that is found by its name is what its body reads as
pub master-read : (rows : Rows) (edition : EditionRow) (name : List ℕ) (place : ℕ) (row : TextRow) → AreValid rows
    → find (λ one. bytes_eq (master_name rows.masters one) name) edition.masters ≡ Some place
    → slice_get rows.masters place ≡ Some row
    → run (value_or (read_sheet row.body) sheet_refusal) ≡ run (master_of (published_of rows) edition name)
master-read rows edition name place row valid found stands =
    let sheet = some-read row.name (read_sheet row.body) (valid.masters place row stands).reads in
    rw (found, stands, sheet.1) refl

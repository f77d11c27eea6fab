-- The lines of tables, and which tables lines stand for.
use Rattle.std.specs.Prelude.{◌≡◌, ℕ, ◌+◌, Bool, true, false, List, [], ◌∷◌, ◌++◌, if◌then◌else◌, IsPermutation}
use Rattle.std.specs.List.{AllByRecursion}
use Rattle.desk_words.specs.declared.rows.edition.EditionRow.{EditionRow}
use Rattle.desk_words.specs.Tables.{AreTables, Rows, empty_rows}
use Rattle.desk_packing.specs.declared.kinds.TheConstants.{VERSION, CLERKS, SCHEMAS, MASTERS, RULEBOOKS, EDITIONS}
use Rattle.desk_packing.specs.declared.kinds.TheConstants.{REGIONS, SESSIONS, RECORDS, BATCHES}
use Rattle.desk_packing.specs.Formats.{Format}
use Rattle.desk_packing.specs.Lines.{Line}
use Rattle.desk_packing.specs.RowFormats.{clerk, edition, old_edition, region, rulebook, session, text_row}
use Rattle.desk_packing.specs.RowFormats.{committed, batch}

-- a row at a place of a list
abbrev pub row_line : {A : Type 0} → Format A → ℕ → ℕ → ℕ → A → Line
row_line format kind owner place row = record { kind = kind; owner = owner; place = place; body = format.print row }

-- the rows of a list, from a place on
abbrev pub list_lines : {A : Type 0} → Format A → ℕ → ℕ → ℕ → List A → List Line
list_lines format kind owner place [] = []
list_lines format kind owner place (row ∷ rows) =
    row_line format kind owner place row ∷ list_lines format kind owner (place + 1) rows

-- the rows of the clerks' own lists, from a clerk on
abbrev pub own_lines : {A : Type 0} → Format A → ℕ → ℕ → List (List A) → List Line
own_lines format kind owner [] = []
own_lines format kind owner (rows ∷ lists) =
    list_lines format kind owner 0 rows ++ own_lines format kind (owner + 1) lists

-- editions stand in one of two versions: the old one is from before they had folded attributes
abbrev pub edition_in : Bool → Format EditionRow
edition_in false = edition
edition_in true = old_edition

-- the line that says which version it is
abbrev pub version_line : Bool → Line
version_line is_old = record { kind = VERSION; owner = 0; place = 0; body = (if is_old then 1 else 2) ∷ [] }

-- the lines of tables in a version
abbrev pub lines_in : Bool → Rows → List Line
lines_in is_old rows = version_line is_old ∷ (list_lines clerk CLERKS 0 0 rows.clerks
    ++ (list_lines text_row SCHEMAS 0 0 rows.schemas
    ++ (list_lines text_row MASTERS 0 0 rows.masters
    ++ (list_lines rulebook RULEBOOKS 0 0 rows.rulebooks
    ++ (list_lines (edition_in is_old) EDITIONS 0 0 rows.editions
    ++ (list_lines region REGIONS 0 0 rows.regions
    ++ (own_lines session SESSIONS 0 rows.sessions
    ++ (own_lines committed RECORDS 0 rows.records
    ++ own_lines batch BATCHES 0 rows.batches))))))))

-- the lines of tables in this version
abbrev pub lines_of : Rows → List Line
lines_of = lines_in false

-- the lines of tables in the old version
abbrev pub old_lines_of : Rows → List Line
old_lines_of = lines_in true

-- every row fits its fields; in the old version no edition has a folded attribute
pub record FitFields (is_old : Bool) (rows : Rows) : Type 0 where
  pub clerks : AllByRecursion clerk.Fits rows.clerks
  pub schemas : AllByRecursion text_row.Fits rows.schemas
  pub masters : AllByRecursion text_row.Fits rows.masters
  pub rulebooks : AllByRecursion rulebook.Fits rows.rulebooks
  pub editions : AllByRecursion (edition_in is_old).Fits rows.editions
  pub regions : AllByRecursion region.Fits rows.regions
  pub sessions : AllByRecursion (AllByRecursion session.Fits) rows.sessions
  pub records : AllByRecursion (AllByRecursion committed.Fits) rows.records
  pub batches : AllByRecursion (AllByRecursion batch.Fits) rows.batches

-- the lines, in any order, are those of these tables in the version
pub record StandIn (is_old : Bool) (lines : List Line) (rows : Rows) : Type 0 where
  pub tables : AreTables rows
  pub fit : FitFields is_old rows
  pub same : IsPermutation (lines_in is_old rows) lines

-- no lines stand for empty tables, as those of a new desk
abbrev pub StandAs : Bool → List Line → Rows → Type 0
StandAs is_old [] rows = (is_old ≡ false) × (rows ≡ empty_rows)
StandAs is_old (line ∷ lines) rows = StandIn is_old (line ∷ lines) rows

-- the lines stand for these tables, in one version or the other
abbrev pub StandFor : List Line → Rows → Type 0
StandFor lines rows = (is_old : Bool) × StandAs is_old lines rows

-- Which rows a program can have: each number in the range of its field, each text as a cell has it.
use Rattle.std.specs.Prelude.{◌≡◌, ℕ, ◌<◌, ◌≤◌, ◌^◌, List, length, IsUtf8}
use Rattle.std.specs.List.{AllByRecursion}
use Rattle.desk_base.specs.declared.limits.TheConstants.{MAX_TEXT}
use Rattle.desk_words.specs.declared.rows.batch.BatchRow.{BatchRow}
use Rattle.desk_words.specs.declared.rows.clerk.ClerkRow.{ClerkRow}
use Rattle.desk_words.specs.declared.rows.edition.EditionRow.{EditionRow}
use Rattle.desk_words.specs.declared.rows.record.RecordRow.{RecordRow}
use Rattle.desk_words.specs.declared.rows.region.RegionRow.{RegionRow}
use Rattle.desk_words.specs.declared.rows.rulebook.RulebookRow.{RulebookRow}
use Rattle.desk_words.specs.declared.rows.session.SessionRow.{SessionRow}
use Rattle.desk_words.specs.declared.rows.text.TextRow.{TextRow}
use Rattle.desk_words.specs.Tables.{Rows}

-- numbers of 8, 16, 32 and 64 bits
abbrev pub IsByte : ℕ → Type 0
IsByte n = n < 2 ^ 8

abbrev pub IsShortNumber : ℕ → Type 0
IsShortNumber n = n < 2 ^ 16

abbrev pub IsNumber : ℕ → Type 0
IsNumber n = n < 2 ^ 32

abbrev pub IsLongNumber : ℕ → Type 0
IsLongNumber n = n < 2 ^ 64

-- the text of a cell
abbrev pub IsText : List ℕ → Type 0
IsText text = (length text ≤ MAX_TEXT) × IsUtf8 text

-- texts of cells
abbrev pub AreTexts : List (List ℕ) → Type 0
AreTexts texts = AllByRecursion IsText texts

-- bytes
abbrev pub AreBytes : List ℕ → Type 0
AreBytes bytes = AllByRecursion IsByte bytes

-- each row type
pub record IsClerk (row : ClerkRow) : Type 0 where
  pub name : IsText row.name
  pub last : IsLongNumber row.last
  pub digest : AreBytes row.digest.bytes
  pub count : length row.digest.bytes ≡ 32
  pub target : IsNumber row.target

pub record IsTextRow (row : TextRow) : Type 0 where
  pub name : IsText row.name
  pub version : IsNumber row.version
  pub body : AreBytes row.body

pub record IsRulebook (row : RulebookRow) : Type 0 where
  pub name : IsText row.name
  pub version : IsNumber row.version
  pub schema : IsNumber row.schema
  pub body : AreBytes row.body

pub record IsEdition (row : EditionRow) : Type 0 where
  pub name : IsText row.name
  pub version : IsNumber row.version
  pub rulebook : IsNumber row.rulebook
  pub masters : AllByRecursion IsNumber row.masters
  pub folded : AllByRecursion IsShortNumber row.folded

pub record IsRegion (row : RegionRow) : Type 0 where
  pub edition : IsNumber row.edition
  pub attributes : AllByRecursion IsShortNumber row.region.attrs
  pub rows : AllByRecursion AreTexts row.region.rows

pub record IsSession (row : SessionRow) : Type 0 where
  pub edition : IsNumber row.edition
  pub typed : AreTexts row.typed
  pub batch : IsNumber row.batch

pub record IsRecord (row : RecordRow) : Type 0 where
  pub session : IsNumber row.session
  pub texts : AreTexts row.texts

pub record IsBatch (row : BatchRow) : Type 0 where
  pub edition : IsNumber row.edition
  pub first : IsNumber row.first
  pub count : IsNumber row.count

-- all rows
pub record AreInRange (rows : Rows) : Type 0 where
  pub clerks : AllByRecursion IsClerk rows.clerks
  pub schemas : AllByRecursion IsTextRow rows.schemas
  pub masters : AllByRecursion IsTextRow rows.masters
  pub rulebooks : AllByRecursion IsRulebook rows.rulebooks
  pub editions : AllByRecursion IsEdition rows.editions
  pub regions : AllByRecursion IsRegion rows.regions
  pub sessions : AllByRecursion (AllByRecursion IsSession) rows.sessions
  pub records : AllByRecursion (AllByRecursion IsRecord) rows.records
  pub batches : AllByRecursion (AllByRecursion IsBatch) rows.batches

-- The masters that a sheet can give.
use Rattle.std.specs.Prelude.{◌≡◌, ◌≢◌, ◌≤◌, ℕ, false, List, length, All, AllPairs, IsUtf8}
use Rattle.desk_base.specs.declared.limits.TheConstants.{MAX_COLUMN, MAX_TEXT, MAX_COLUMNS, MAX_ROWS}
use Rattle.master_rows.specs.Mark.{begins_with_mark}
use Rattle.master_rows.specs.declared.master.Master.{Master}

-- a column is a text of 1 to 64 bytes that does not begin with a byte order mark
pub record IsColumn (text : List ℕ) : Type 0 where
  pub utf8 : IsUtf8 text
  pub some : 1 ≤ length text
  pub short : length text ≤ MAX_COLUMN
  pub unmarked : begins_with_mark text ≡ false

-- a cell is a text of at most 200 bytes
pub record IsCell (text : List ℕ) : Type 0 where
  pub utf8 : IsUtf8 text
  pub short : length text ≤ MAX_TEXT

-- a row has a cell under each column
pub record IsRow (columns : ℕ) (texts : List (List ℕ)) : Type 0 where
  pub full : length texts ≡ columns
  pub cells : All IsCell texts

-- 1 to 48 columns that differ, over at most so many rows
pub record IsMasterWithin (most : ℕ) (master : Master) : Type 0 where
  pub headed : 1 ≤ length master.columns
  pub narrow : length master.columns ≤ MAX_COLUMNS
  pub columns : All IsColumn master.columns
  pub distinct : AllPairs (λ one other. one ≢ other) master.columns
  pub width : master.grid.columns ≡ length master.columns
  pub few : length master.grid.rows ≤ most
  pub rows : All (IsRow (length master.columns)) master.grid.rows

-- a master of the desk has at most 20,000 rows
abbrev pub IsMaster : Master → Type 0
IsMaster = IsMasterWithin MAX_ROWS

-- What was read of a dump: changes, and the tables that they make over those of a new desk.
use Rattle.std.specs.Prelude.{◌≡◌}
use Rattle.desk_words.specs.Changes.{FitAll, changed_all}
use Rattle.desk_words.specs.Tables.{AreTables, empty_rows, rows_of}
use Rattle.desk_restore.specs.declared.restoring.Restored.{Restored}

-- the changes fit a new desk, and make the tables
pub record IsMade (made : Restored) : Type 0 where
  pub fit : FitAll empty_rows made.changes
  pub rows : rows_of made.tables ≡ changed_all empty_rows made.changes
  pub tables : AreTables (rows_of made.tables)

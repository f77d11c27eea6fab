-- What is used of lines that stand for tables.
use Rattle.std.proofs.Common.{◌≡◌, true, false, List, [], ◌∷◌, Some}
use Rattle.std.proofs.lemmas.List.Sorted.{IsPermutation-middle}
use Rattle.desk_words.specs.Tables.{Rows, empty_rows}
use Rattle.desk_packing.specs.Lines.{Line, put_lines}
use Rattle.desk_packing.specs.Reading.{rows_in}
use Rattle.desk_packing.specs.Shapes.{migration_lines}
use Rattle.desk_packing.specs.Stands.{StandFor, StandIn, lines_of}
use Rattle.desk_packing.proofs.Migrating.{StandIn-migration, old_editions-fit}
use Rattle.desk_packing.proofs.Steward.{AreTables-empty, FitFields-empty}
use Rattle.desk_packing.proofs.Stood.{rows_in-StandFor}

-- lines that stand for tables are read as these
pub stand_read : (lines : List Line) (rows : Rows) → StandFor lines rows → rows_in lines ≡ Some rows
stand_read lines rows stand = (rows_in-StandFor lines rows).1 stand

-- the lines of a new desk
pub first_stand : StandIn false (put_lines [] (lines_of empty_rows)) empty_rows
first_stand = record { tables = AreTables-empty; fit = FitFields-empty; same = IsPermutation-middle (_ ∷ []) _ [] }

-- lines of the old version that are put anew
pub migrated_stand : (lines : List Line) (rows : Rows) → StandIn true lines rows
    → StandIn false (put_lines lines (migration_lines rows)) rows
migrated_stand lines rows stand = StandIn-migration lines rows stand (old_editions-fit rows.editions stand.fit.editions)

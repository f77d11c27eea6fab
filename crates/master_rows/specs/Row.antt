-- The tests of a sheet's data rows, in their order, where it may have so many. Rows and columns count from 1.
use Rattle.std.specs.Prelude.{ℕ, ◌+◌, not, ◌==◌, nat_lt, List, [], ◌∷◌, length, Option, Some, None, if◌then◌else◌}
use Rattle.std.specs.List.{list_all}
use Rattle.std.specs.Option.{option_or}
use Rattle.std.specs.Str.{is_utf8}
use Rattle.desk_base.specs.declared.limits.TheConstants.{MAX_TEXT}
use Rattle.master_rows.specs.declared.error.SheetFault.{SheetFault}
use Rattle.master_rows.specs.declared.error.SheetFault.TheVariants.{NotUtf8, Ragged, CellLong, TooManyRows}

-- the first fault of a row's cells, from this column on
abbrev pub cells_fault : ℕ → ℕ → List (List ℕ) → Option SheetFault
cells_fault row column [] = None
cells_fault row column (cell ∷ later) =
    if nat_lt MAX_TEXT (length cell) then Some (CellLong row column) else cells_fault row (column + 1) later

-- the first fault of a row with this number, of so many at most, under so many columns
abbrev pub row_fault : ℕ → ℕ → ℕ → List (List ℕ) → Option SheetFault
row_fault most columns row cells =
    if nat_lt most row then Some TooManyRows
    else if not (length cells == columns) then Some (Ragged row)
    else if not (list_all is_utf8 cells) then Some (NotUtf8 row)
    else cells_fault row 1 cells

-- the first fault of the rows from this number on
abbrev pub rows_fault : ℕ → ℕ → ℕ → List (List (List ℕ)) → Option SheetFault
rows_fault most columns row [] = None
rows_fault most columns row (cells ∷ later) =
    option_or (row_fault most columns row cells) (rows_fault most columns (row + 1) later)

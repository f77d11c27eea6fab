-- The tests of a sheet's header, in their order. Columns count from 1.
use Rattle.std.specs.Prelude.{ℕ, ◌+◌, Bool, not, ◌&&◌, nat_lt, nat_le, List, [], ◌∷◌, ◌++◌, length, Option, Some, None}
use Rattle.std.specs.Prelude.{if◌then◌else◌}
use Rattle.std.specs.List.{list_all}
use Rattle.std.specs.Str.{is_utf8}
use Rattle.desk_base.specs.declared.limits.TheConstants.{MAX_COLUMN, MAX_COLUMNS}
use Rattle.desk_base.specs.Places.{has_text}
use Rattle.master_rows.specs.Mark.{begins_with_mark}
use Rattle.master_rows.specs.declared.error.SheetFault.{SheetFault}
use Rattle.master_rows.specs.declared.error.SheetFault.TheVariants.{NotUtf8, BadColumn, ColumnTwice, TooManyColumns}

-- 1 to 64 bytes that do not begin with a byte order mark
abbrev pub is_column : List ℕ → Bool
is_column text = nat_lt 0 (length text) && nat_le (length text) MAX_COLUMN && not (begins_with_mark text)

-- the first fault of the columns that stand after earlier ones
abbrev pub columns_fault : List (List ℕ) → List (List ℕ) → Option SheetFault
columns_fault earlier [] = None
columns_fault earlier (column ∷ later) =
    if not (is_column column) then Some (BadColumn (length earlier + 1))
    else if has_text earlier column then Some (ColumnTwice (length earlier + 1))
    else columns_fault (earlier ++ column ∷ []) later

-- the first fault of a header
abbrev pub header_fault : List (List ℕ) → Option SheetFault
header_fault header =
    if not (list_all is_utf8 header) then Some (NotUtf8 0)
    else if nat_lt MAX_COLUMNS (length header) then Some TooManyColumns
    else columns_fault [] header

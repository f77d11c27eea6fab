-- The tests of a sheet's header, in their order, and which column is whose. Columns count from 1 in faults.
use Rattle.std.specs.Prelude.{ℕ, ◌+◌, Bool, not, ◌&&◌, is_none, List, [], ◌∷◌, ◌++◌, length, position}
use Rattle.std.specs.Prelude.{Option, Some, None, slice_index_or, if◌then◌else◌}
use Rattle.std.specs.List.{list_all, range_with_len}
use Rattle.std.specs.Option.{option_map, option_or}
use Rattle.std.specs.Str.{is_utf8}
use Rattle.desk_base.specs.Places.{has_text, place_of}
use Rattle.master_rows.specs.Mark.{begins_with_mark}
use Rattle.sheet_clean.specs.declared.fault.SheetFault.{SheetFault}
use Rattle.sheet_clean.specs.declared.fault.SheetFault.TheVariants.{NotUtf8, MarkedColumn, AttributeTwice, NoColumn}
use Rattle.sheet_clean.specs.declared.fault.SheetFault.TheVariants.{VerdictTaken}
use Rattle.sheet_clean.specs.declared.setting.Setting.{Setting}
use Rattle.sheet_clean.specs.Setting.{attribute_name, is_known}

-- the attribute that a column has the cells of, if it is one
abbrev pub attribute_of : Setting → List ℕ → Option ℕ
attribute_of setting column = place_of setting.names.attributes column

-- the column that has the cells of an attribute, if there is one
abbrev pub column_of : Setting → List (List ℕ) → ℕ → Option ℕ
column_of setting header attribute = place_of header (attribute_name setting attribute)

-- what is wrong with a column after others: it begins with a byte order mark, or it is an attribute for the second time
abbrev pub column_fault : Setting → List (List ℕ) → List ℕ → Option SheetFault
column_fault setting earlier column =
    if begins_with_mark column then Some (MarkedColumn (length earlier + 1))
    else if has_text earlier column then option_map AttributeTwice (attribute_of setting column)
    else None

-- what is wrong first with the columns after others
abbrev pub columns_fault : Setting → List (List ℕ) → List (List ℕ) → Option SheetFault
columns_fault setting earlier [] = None
columns_fault setting earlier (column ∷ later) =
    option_or (column_fault setting earlier column) (columns_fault setting (earlier ++ column ∷ []) later)

-- the attribute is known, and has no column
abbrev pub lacks_column : Setting → List (List ℕ) → ℕ → Bool
lacks_column setting header attribute = is_known setting attribute && is_none (column_of setting header attribute)

-- the first known attribute that has no column
abbrev pub known_fault : Setting → List (List ℕ) → Option SheetFault
known_fault setting header =
    option_map NoColumn (position (lacks_column setting header) (range_with_len 0 (length setting.names.attributes)))

-- the column of verdicts, where one is wanted, would have the name of another
abbrev pub verdict_fault : Option (List ℕ) → List (List ℕ) → Option SheetFault
verdict_fault None header = None
verdict_fault (Some name) header = if has_text header name then Some VerdictTaken else None

-- the first fault of a header of texts
abbrev pub texts_fault : Setting → List (List ℕ) → Option SheetFault
texts_fault setting header = option_or (columns_fault setting [] header)
    (option_or (known_fault setting header) (verdict_fault setting.verdict header))

-- the first column begins with a byte order mark: the sheet began with two
abbrev pub is_marked_twice : List (List ℕ) → Bool
is_marked_twice header = begins_with_mark (slice_index_or header 0 [])

-- the first fault of a header: two marks are told before all else, as a master's are
abbrev pub header_fault : Setting → List (List ℕ) → Option SheetFault
header_fault setting header =
    if is_marked_twice header then Some (MarkedColumn 1)
    else if not (list_all is_utf8 header) then Some (NotUtf8 0)
    else texts_fault setting header

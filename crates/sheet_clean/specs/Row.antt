-- The tests of a row, and the state in which it is decided. Rows count from 1 in faults.
use Rattle.std.specs.Prelude.{ℕ, Bool, not, ◌&&◌, ◌==◌, nat_lt, nat_le, List, [], length, map, position}
use Rattle.std.specs.Prelude.{Option, Some, None, slice_index_or, if◌then◌else◌}
use Rattle.std.specs.List.{list_all, range_with_len}
use Rattle.std.specs.Option.{option_map}
use Rattle.std.specs.Str.{is_utf8}
use Rattle.desk_base.specs.declared.limits.TheConstants.{MAX_TEXT}
use Rattle.fix_model.specs.declared.state.State.{State}
use Rattle.fix_model.specs.States.{confirmed_cell}
use Rattle.sheet_clean.specs.declared.fault.SheetFault.{SheetFault}
use Rattle.sheet_clean.specs.declared.fault.SheetFault.TheVariants.{NotUtf8, Ragged, CellLong}
use Rattle.sheet_clean.specs.declared.setting.Setting.{Setting}
use Rattle.sheet_clean.specs.Header.{column_of}
use Rattle.sheet_clean.specs.Setting.{is_known}

-- the cell in a column, or a blank where there is none
abbrev pub cell_in : List (List ℕ) → Option ℕ → List ℕ
cell_in cells None = []
cell_in cells (Some column) = slice_index_or cells column []

-- what a row has for an attribute: the cell in its column, or a blank
abbrev pub typed_at : Setting → List (List ℕ) → List (List ℕ) → ℕ → List ℕ
typed_at setting header cells attribute = cell_in cells (column_of setting header attribute)

-- the attribute is known, and its cell is longer than a text of a desk
abbrev pub is_long : Setting → List (List ℕ) → List (List ℕ) → ℕ → Bool
is_long setting header cells attribute =
    is_known setting attribute && nat_lt MAX_TEXT (length (typed_at setting header cells attribute))

-- the first known attribute with such a cell
abbrev pub long_fault : Setting → List (List ℕ) → ℕ → List (List ℕ) → Option SheetFault
long_fault setting header row cells =
    option_map (CellLong row) (position (is_long setting header cells)
    (range_with_len 0 (length setting.names.attributes)))

-- the first fault of the row with this number
abbrev pub row_fault : Setting → List (List ℕ) → ℕ → List (List ℕ) → Option SheetFault
row_fault setting header row cells =
    if not (length cells == length header) then Some (Ragged row (length cells) (length header))
    else if not (list_all is_utf8 cells) then Some (NotUtf8 row)
    else long_fault setting header row cells

-- the text that is decided over. What an open cell holds is read by no rule, so one that is longer than a desk's texts
-- is a blank here
abbrev pub decided_text : List ℕ → List ℕ
decided_text text = if nat_le (length text) MAX_TEXT then text else []

-- what is decided over for an attribute
abbrev pub decided_at : Setting → List (List ℕ) → List (List ℕ) → ℕ → List ℕ
decided_at setting header cells attribute = decided_text (typed_at setting header cells attribute)

-- the attribute is known, and not blank
abbrev pub is_confirmed : Setting → List (List ℕ) → List (List ℕ) → ℕ → Bool
is_confirmed setting header cells attribute =
    is_known setting attribute && not (length (typed_at setting header cells attribute) == 0)

-- the state of a row, as a session has it in which the known attributes were confirmed
abbrev pub row_state : Setting → List (List ℕ) → List (List ℕ) → State
row_state setting header cells = record {
  typed = map (decided_at setting header cells) (range_with_len 0 (length setting.names.attributes));
  cells = map confirmed_cell (map (is_confirmed setting header cells)
      (range_with_len 0 (length setting.names.attributes)));
}

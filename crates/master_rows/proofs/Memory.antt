-- No fault of a sheet is want of memory.
use Rattle.std.proofs.Common.{◌≡◌, ◌≢◌, ℕ, ◌+◌, List, [], ◌∷◌, ◌++◌, Bool, true, false, length, inl, inr}
use Rattle.std.specs.Prelude.{Option, Some, None, Err}
use Rattle.std.specs.Bool.{if◌then◌else◌}
use Rattle.std.proofs.lemmas.Bool.{cases_Bool}
use Rattle.master_rows.specs.Mark.{begins_with_two_marks}
use Rattle.master_rows.specs.Header.{columns_fault, header_fault}
use Rattle.std.specs.Option.{option_or}
use Rattle.master_rows.specs.Row.{cells_fault, row_fault, rows_fault}
use Rattle.master_rows.specs.Sheet.{sheet_within, sheet_records, records_within, unless}
use Rattle.master_rows.specs.declared.error.SheetFault.{SheetFault}
use Rattle.master_rows.specs.declared.error.SheetFault.TheVariants.{NotUtf8, BadColumn, ColumnTwice, Ragged, CellLong}
use Rattle.master_rows.specs.declared.error.SheetFault.TheVariants.{TooManyRows, TooManyColumns, NoMemory}
use Rattle.master_rows.specs.declared.master.Master.{Master}

-- a fault of the sheet, or else another that is none of memory
fault_or : (test : Bool) (fault : SheetFault) (other : Option SheetFault) → fault ≢ NoMemory → other ≢ Some NoMemory
    → (if test then Some fault else other) ≢ Some NoMemory
fault_or true fault other apart later = λ (h : Some fault ≡ Some NoMemory). apart cc
fault_or false fault other apart later = later

-- of columns
columns_fault-memory : (earlier later : List (List ℕ)) → columns_fault earlier later ≢ Some NoMemory
columns_fault-memory earlier [] = λ h. cc
columns_fault-memory earlier (column ∷ later) =
    fault_or _ (BadColumn (length earlier + 1)) _ (λ (h : BadColumn (length earlier + 1) ≡ NoMemory). cc)
    (fault_or _ (ColumnTwice (length earlier + 1)) _ (λ (h : ColumnTwice (length earlier + 1) ≡ NoMemory). cc)
    (columns_fault-memory (earlier ++ column ∷ []) later))

-- of a header
header_fault-memory : (header : List (List ℕ)) → header_fault header ≢ Some NoMemory
header_fault-memory header =
    fault_or _ (NotUtf8 0) _ (λ (h : NotUtf8 0 ≡ NoMemory). cc)
    (fault_or _ TooManyColumns _ (λ (h : TooManyColumns ≡ NoMemory). cc)
    (columns_fault-memory [] header))

-- of cells
cells_fault-memory : (row column : ℕ) (cells : List (List ℕ)) → cells_fault row column cells ≢ Some NoMemory
cells_fault-memory row column [] = λ h. cc
cells_fault-memory row column (cell ∷ later) = fault_or _ (CellLong row column) _
    (λ (h : CellLong row column ≡ NoMemory). cc) (cells_fault-memory row (column + 1) later)

-- of a row
row_fault-memory : (most : ℕ) (columns row : ℕ) (cells : List (List ℕ))
    → row_fault most columns row cells ≢ Some NoMemory
row_fault-memory most columns row cells =
    fault_or _ TooManyRows _ (λ (h : TooManyRows ≡ NoMemory). cc)
    (fault_or _ (Ragged row) _ (λ (h : Ragged row ≡ NoMemory). cc)
    (fault_or _ (NotUtf8 row) _ (λ (h : NotUtf8 row ≡ NoMemory). cc)
    (cells_fault-memory row 1 cells)))

-- the first of two
option_or-memory : (first later : Option SheetFault) → first ≢ Some NoMemory → later ≢ Some NoMemory
    → option_or first later ≢ Some NoMemory
option_or-memory None later one other = other
option_or-memory (Some fault) later one other = one

-- of rows
rows_fault-memory : (most : ℕ) (columns row : ℕ) (rows : List (List (List ℕ)))
    → rows_fault most columns row rows ≢ Some NoMemory
rows_fault-memory most columns row [] = λ h. cc
rows_fault-memory most columns row (cells ∷ later) = option_or-memory _ _ (row_fault-memory most columns row cells)
    (rows_fault-memory most columns (row + 1) later)

-- what is given in its place
unless-memory : (fault : Option SheetFault) (master : Master) → fault ≢ Some NoMemory
    → unless fault master ≢ Err NoMemory
unless-memory None master apart = λ h. cc
unless-memory (Some fault) master apart = λ h. apart cc

-- of records
read_records-memory : (most : ℕ) (rows : List (List (List ℕ))) → records_within most rows ≢ Err NoMemory
read_records-memory most [] = λ h. cc
read_records-memory most (header ∷ rows) = unless-memory _ _
    (option_or-memory _ _ (header_fault-memory header) (rows_fault-memory most (length header) 1 rows))

-- no sheet is refused for want of memory
pub read_sheet-memory : (most : ℕ) (sheet : List ℕ) → sheet_within most sheet ≢ Err NoMemory
read_sheet-memory most sheet = elim (cases_Bool (begins_with_two_marks sheet)) [
  | inl two ↦ rw two (λ (h : Err (BadColumn 1) ≡ Err NoMemory). cc)
  | inr other ↦ rw other (read_records-memory most (sheet_records sheet))
]

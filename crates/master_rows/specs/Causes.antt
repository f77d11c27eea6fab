-- What is wrong with a sheet that is refused: one equation a fault, without the order of the tests.
use Rattle.std.specs.Prelude.{◌≡◌, ◌⊎◌, ℕ, ◌+◌, ◌<◌, true, false, List, [], length, Some, slice_get, IsSomeAnd}
use Rattle.std.specs.List.{list_all}
use Rattle.std.specs.Str.{is_utf8}
use Rattle.desk_base.specs.declared.limits.TheConstants.{MAX_COLUMNS, MAX_ROWS, MAX_TEXT}
use Rattle.master_rows.specs.Header.{is_column}
use Rattle.master_rows.specs.Mark.{begins_with_two_marks}
use Rattle.master_rows.specs.Sheet.{sheet_records}
use Rattle.master_rows.specs.declared.error.SheetFault.{SheetFault}
use Rattle.master_rows.specs.declared.error.SheetFault.TheVariants.{NotUtf8, NoHeader, BadColumn, ColumnTwice, Ragged}
use Rattle.master_rows.specs.declared.error.SheetFault.TheVariants.{CellLong, TooManyRows, TooManyColumns, NoMemory}

-- the column with this number, from 1, has not the form of one
pub record HasBadColumn (records : List (List (List ℕ))) (number : ℕ) : Type 0 where
  pub header : List (List ℕ)
  pub first : slice_get records 0 ≡ Some header
  pub place : ℕ
  pub counted : number ≡ place + 1
  pub bad : IsSomeAnd (slice_get header place) (λ column. is_column column ≡ false)

-- the column with this number, from 1, equals an earlier one
pub record HasColumnTwice (records : List (List (List ℕ))) (number : ℕ) : Type 0 where
  pub header : List (List ℕ)
  pub first : slice_get records 0 ≡ Some header
  pub earlier : ℕ
  pub place : ℕ
  pub counted : number ≡ place + 1
  pub before : earlier < place
  pub column : List ℕ
  pub one : slice_get header earlier ≡ Some column
  pub other : slice_get header place ≡ Some column

-- the row with this number, from 1, has not as many fields as the header
pub record IsRagged (records : List (List (List ℕ))) (row : ℕ) : Type 0 where
  pub header : List (List ℕ)
  pub first : slice_get records 0 ≡ Some header
  pub cells : List (List ℕ)
  pub stands : slice_get records row ≡ Some cells
  pub bad : ¬ (length cells ≡ length header)

-- in the row with this number the cell with this one, both from 1, is longer than 200 bytes
pub record HasLongCell (records : List (List (List ℕ))) (row number : ℕ) : Type 0 where
  pub cells : List (List ℕ)
  pub stands : slice_get records row ≡ Some cells
  pub place : ℕ
  pub counted : number ≡ place + 1
  pub bad : IsSomeAnd (slice_get cells place) (λ cell. MAX_TEXT < length cell)

-- what a fault says of records, of which the first is the header and the others are the rows, of so many at most
abbrev pub IsOf : ℕ → List (List (List ℕ)) → SheetFault → Type 0
IsOf most records (NotUtf8 row) = IsSomeAnd (slice_get records row) (λ fields. list_all is_utf8 fields ≡ false)
IsOf most records NoHeader = records ≡ []
IsOf most records (BadColumn number) = HasBadColumn records number
IsOf most records (ColumnTwice number) = HasColumnTwice records number
IsOf most records (Ragged row) = IsRagged records row
IsOf most records (CellLong row number) = HasLongCell records row number
IsOf most records TooManyRows = most + 1 < length records
IsOf most records TooManyColumns = IsSomeAnd (slice_get records 0) (λ header. MAX_COLUMNS < length header)
IsOf most records NoMemory = ⊥

-- what a fault says of a sheet of so many rows at most: it begins with two marks, or the fault is of its records
abbrev pub HasCauseWithin : ℕ → List ℕ → SheetFault → Type 0
HasCauseWithin most sheet fault =
    ((begins_with_two_marks sheet ≡ true) × (fault ≡ BadColumn 1)) ⊎ IsOf most (sheet_records sheet) fault

-- what it says of a sheet of the desk
abbrev pub HasCause : List ℕ → SheetFault → Type 0
HasCause = HasCauseWithin MAX_ROWS

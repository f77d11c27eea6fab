-- The sentences on sheets: from the fault, the most rows and the sheet.
use Rattle.std.specs.Prelude.{ℕ, ◌+◌, ◌==◌, if◌then◌else◌, List, ◌++◌, length, codes, decimal}
use Rattle.master_rows.specs.declared.error.SheetFault.{SheetFault}
use Rattle.master_rows.specs.declared.error.SheetFault.TheVariants as fault
use Rattle.master_rows.specs.Mark.{begins_with_mark, begins_with_two_marks}
use Rattle.fault_sentences.specs.Shown.{quoted, shown}
use Rattle.fault_sentences.specs.Places.{has_bytes, other_byte}
use Rattle.fault_sentences.specs.Equals.{equals_earlier}
use Rattle.fault_sentences.specs.Memory.{no_memory}
use Rattle.fault_sentences.specs.Records.{equal_field, field_of, fields_at, other_field}

-- with which byte a field stops to be UTF-8, and what to do
unfoldable pub at_other_byte : List ℕ → List ℕ
at_other_byte field = codes ", at " ++ other_byte field ++ codes "; save the sheet as UTF-8"

-- a header that is not UTF-8
unfoldable pub header_not_utf8 : List (List ℕ) → List ℕ
header_not_utf8 header =
    codes "the header is not UTF-8 in column " ++ decimal (other_field header)
    ++ at_other_byte (field_of header (other_field header))

-- a row that is not UTF-8
unfoldable pub row_not_utf8 : List (List ℕ) → ℕ → List (List ℕ) → List ℕ
row_not_utf8 header row fields =
    codes "row " ++ decimal row ++ codes " is not UTF-8 in the column "
    ++ shown (field_of header (other_field fields)) ++ at_other_byte (field_of fields (other_field fields))

-- a column that is too long
unfoldable pub column_long : List ℕ → List ℕ
column_long column =
    codes ", " ++ quoted column ++ codes "," ++ has_bytes (length column)
    ++ codes ", and a column has at most 64; shorten it"

-- why a column has not the form of one
unfoldable pub column_fault : List ℕ → List ℕ
column_fault column =
    if length column == 0 then codes " has no name; give it one, or take it out of each row"
    else if begins_with_mark column then codes " begins with a byte order mark; take it off"
    else column_long column

-- a column that has not the form of one
unfoldable pub bad_column : ℕ → List ℕ → List ℕ
bad_column number column = codes "column " ++ decimal number ++ column_fault column

-- the same of the first column, where the sheet begins with two marks
unfoldable pub bad_column_in : ℕ → List ℕ → List ℕ
bad_column_in number sheet =
    if begins_with_two_marks sheet then codes "column 1 begins with a second byte order mark; take it off"
    else bad_column number (field_of (fields_at sheet 0) number)

-- a column that equals an earlier one
unfoldable pub column_twice : ℕ → List (List ℕ) → List ℕ
column_twice number header =
    equals_earlier (codes "column ") number (field_of header number) (equal_field header (field_of header number))
    ++ codes "; give one of the two another name"

-- how many fields a row has
unfoldable pub has_fields : ℕ → List ℕ
has_fields count = codes " has " ++ decimal count ++ (if count == 1 then codes " field" else codes " fields")

-- a row that has not as many fields as the header
unfoldable pub ragged : ℕ → ℕ → ℕ → List ℕ
ragged columns row fields =
    codes "row " ++ decimal row ++ has_fields fields ++ codes ", and the header has " ++ decimal columns

-- a cell that is too long
unfoldable pub cell_long : List ℕ → ℕ → List ℕ → List ℕ
cell_long column row cell =
    codes "row " ++ decimal row ++ has_bytes (length cell) ++ codes " in the column " ++ shown column
    ++ codes ", and a cell has at most 200; shorten " ++ quoted cell

-- how many rows there may be
unfoldable pub most_rows : ℕ → List ℕ
most_rows most = codes " is one too many; a sheet has at most " ++ decimal most ++ codes " rows"

-- one row more than there may be
unfoldable pub too_many_rows : ℕ → List ℕ
too_many_rows most = codes "row " ++ decimal (most + 1) ++ most_rows most

-- more columns than there may be
unfoldable pub too_many_columns : List (List ℕ) → List ℕ
too_many_columns header =
    codes "the header has " ++ decimal (length header)
    ++ codes " columns, and a sheet has at most 48; leave out those that no rule needs"

-- no record at all
abbrev pub no_header : List ℕ
no_header = codes "the sheet is empty; its first line names the columns"

-- a field that is not UTF-8: of the header, which is row 0, or of another row
unfoldable pub not_utf8_in : ℕ → List ℕ → List ℕ
not_utf8_in row sheet =
    if row == 0 then header_not_utf8 (fields_at sheet 0)
    else row_not_utf8 (fields_at sheet 0) row (fields_at sheet row)

-- the sentence
unfoldable pub sheet_sentence : SheetFault → ℕ → List ℕ → List ℕ
sheet_sentence (fault.NotUtf8 row) most sheet = not_utf8_in row sheet
sheet_sentence fault.NoHeader most sheet = no_header
sheet_sentence (fault.BadColumn number) most sheet = bad_column_in number sheet
sheet_sentence (fault.ColumnTwice number) most sheet = column_twice number (fields_at sheet 0)
sheet_sentence (fault.Ragged row) most sheet = ragged (length (fields_at sheet 0)) row (length (fields_at sheet row))
sheet_sentence (fault.CellLong row number) most sheet =
    cell_long (field_of (fields_at sheet 0) number) row (field_of (fields_at sheet row) number)
sheet_sentence fault.TooManyRows most sheet = too_many_rows most
sheet_sentence fault.TooManyColumns most sheet = too_many_columns (fields_at sheet 0)
sheet_sentence fault.NoMemory most sheet = no_memory

-- The sentences on sheets are printable ASCII.
use Rattle.std.proofs.Common.{ℕ, List, refl}
use Rattle.std.specs.Prelude.{codes}
use Rattle.std.proofs.lemmas.List.Folds.{list_all-append}
use Rattle.master_rows.specs.declared.error.SheetFault.{SheetFault}
use Rattle.master_rows.specs.declared.error.SheetFault.TheVariants as fault
use Rattle.fault_sentences.specs.Printable.{IsPrintable}
use Rattle.fault_sentences.specs.Records.{equal_field, field_of, fields_at}
use Rattle.fault_sentences.specs.Sheets.{at_other_byte, bad_column, bad_column_in, cell_long, column_fault, column_long}
use Rattle.fault_sentences.specs.Sheets.{column_twice, has_fields, header_not_utf8, most_rows, not_utf8_in, ragged}
use Rattle.fault_sentences.specs.Sheets.{row_not_utf8, sheet_sentence, too_many_columns, too_many_rows}
use Rattle.fault_sentences.proofs.Printable.{decimal-printable, equals_earlier-printable, has_bytes-printable, if-same}
use Rattle.fault_sentences.proofs.Printable.{list_all-if, other_byte-printable, quoted-printable, shown-printable}

-- fields that are not UTF-8
not_utf8_in-printable : (row : ℕ) (sheet : List ℕ) → IsPrintable (not_utf8_in row sheet)
unfolding not_utf8_in header_not_utf8 row_not_utf8 at_other_byte
not_utf8_in-printable row sheet =
    simp (list_all-if, if-same, list_all-append, decimal-printable, shown-printable, other_byte-printable)

-- a column that has not the form of one
bad_column_in-printable : (number : ℕ) (sheet : List ℕ) → IsPrintable (bad_column_in number sheet)
unfolding bad_column_in bad_column column_fault column_long
bad_column_in-printable number sheet =
    simp (list_all-if, if-same, list_all-append, decimal-printable, quoted-printable, has_bytes-printable)

-- the sentence
pub sheet_sentence-printable : (fault : SheetFault) (most : ℕ) (sheet : List ℕ)
    → IsPrintable (sheet_sentence fault most sheet)
unfolding sheet_sentence column_twice ragged has_fields cell_long most_rows too_many_rows too_many_columns
sheet_sentence-printable (fault.NotUtf8 row) most sheet = not_utf8_in-printable row sheet
sheet_sentence-printable fault.NoHeader most sheet = refl
sheet_sentence-printable (fault.BadColumn number) most sheet = bad_column_in-printable number sheet
sheet_sentence-printable (fault.ColumnTwice number) most sheet =
    let column = field_of (fields_at sheet 0) number in
    let earlier = equal_field (fields_at sheet 0) column in
    simp (list_all-append, equals_earlier-printable (codes "column ") number column earlier refl)
sheet_sentence-printable (fault.Ragged row) most sheet =
    simp (list_all-if, if-same, list_all-append, decimal-printable)
sheet_sentence-printable (fault.CellLong row number) most sheet =
    simp (list_all-append, decimal-printable, has_bytes-printable, shown-printable, quoted-printable)
sheet_sentence-printable fault.TooManyRows most sheet = simp (list_all-append, decimal-printable)
sheet_sentence-printable fault.TooManyColumns most sheet = simp (list_all-append, decimal-printable)
sheet_sentence-printable fault.NoMemory most sheet = refl

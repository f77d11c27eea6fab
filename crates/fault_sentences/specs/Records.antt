-- The records of a sheet, by their places: 0 is the header, and 1 the first row.
use Rattle.std.specs.Prelude.{ℕ, ◌+◌, ◌-◌, not, List, [], slice_get, slice_index_or, position, unwrap_or}
use Rattle.std.specs.Str.{bytes_eq, is_utf8}
use Rattle.master_rows.specs.Sheet.{sheet_records}

-- the fields of the record at a place, none past the last
abbrev pub fields_at : List ℕ → ℕ → List (List ℕ)
fields_at sheet place = unwrap_or (slice_get (sheet_records sheet) place) []

-- the field with this number, from 1
abbrev pub field_of : List (List ℕ) → ℕ → List ℕ
field_of fields number = slice_index_or fields (number - 1) []

-- the number of the first field that is not UTF-8
abbrev pub other_field : List (List ℕ) → ℕ
other_field fields = unwrap_or (position (λ field. not (is_utf8 field)) fields) 0 + 1

-- the number of the first field that equals a text
abbrev pub equal_field : List (List ℕ) → List ℕ → ℕ
equal_field fields text = unwrap_or (position (bytes_eq text) fields) 0 + 1

-- The text of derived rows: CSV, as the crate `csv` writes it with its default settings (RFC 4180; docs/formats.md,
-- Derived rows).
use Rattle.std.specs.Prelude.{◌≡◌, ℕ, List, ◌∷◌, length, map, All, codes, decimal, flat_map}
use Rattle.csv.specs.Writing.{default_writer, row_text}
use Rattle.desk_words.specs.declared.reply.DerivedSheet.{DerivedSheet}

-- each row has one text for each attribute
abbrev pub IsFull : DerivedSheet → Type 0
IsFull sheet = All (λ row. length row.1 ≡ length sheet.attributes) sheet.rows

-- the header
abbrev pub header : List (List ℕ) → List (List ℕ)
header attributes = codes "row" ∷ attributes

-- the fields of a row: its number in the master, counted from 1, and its texts
abbrev pub fields_of : ℕ × List (List ℕ) → List (List ℕ)
fields_of row = decimal row.0 ∷ row.1

-- derived rows: the header, and a line for each
abbrev pub derived_text : DerivedSheet → List ℕ
derived_text sheet = flat_map (row_text default_writer) (header sheet.attributes ∷ map fields_of sheet.rows)

-- The text of records: CSV, as the crate `csv` writes it with its default settings (RFC 4180; docs/formats.md, Reports
-- and records).
use Rattle.std.specs.Prelude.{◌≡◌, ℕ, Bool, true, false, List, ◌∷◌, length, map, All, codes, decimal, flat_map}
use Rattle.csv.specs.Writing.{default_writer, row_text}
use Rattle.desk_words.specs.declared.report.RecordLine.{RecordLine}
use Rattle.desk_words.specs.declared.report.RecordSheet.{RecordSheet}

-- each line has one text for each attribute
abbrev pub IsFull : RecordSheet → Type 0
IsFull sheet = All (λ line. length line.texts ≡ length sheet.attributes) sheet.lines

-- the header
abbrev pub header : List (List ℕ) → List (List ℕ)
header attributes = codes "record" ∷ codes "session" ∷ codes "certain" ∷ attributes

-- whether a record is certain
abbrev pub certain_word : Bool → List ℕ
certain_word true = codes "yes"
certain_word false = codes "no"

-- the fields of a record
abbrev pub fields_of : RecordLine → List (List ℕ)
fields_of line = decimal line.number ∷ decimal line.session ∷ certain_word line.certain ∷ line.texts

-- records: the header, and a row for each
abbrev pub records_text : RecordSheet → List ℕ
records_text sheet = flat_map (row_text default_writer) (header sheet.attributes ∷ map fields_of sheet.lines)

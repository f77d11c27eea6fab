-- The text of a dump: a line of JSON for each row (docs/formats.md, Dumps).
use Rattle.std.specs.Prelude.{ℕ, ◌+◌, List, [], ◌∷◌, ◌++◌, codes, flat_map, length, map}
use Rattle.serde_json.specs.Data.{Data, string}
use Rattle.serde_json.specs.Written.{compact_text}
use Rattle.json_parts.specs.Shapes.{line, list_of, whole}
use Rattle.desk_words.specs.Tables.{Rows}
use Rattle.desk_dump.specs.Fields.{batch_fields, clerk_fields, edition_fields, record_fields, region_fields}
use Rattle.desk_dump.specs.Fields.{rulebook_fields, session_fields, text_fields}

-- the line of a row: its kind, where it stands, and its fields
abbrev pub row_line : List ℕ → List ℕ → List Data → Data
row_line kind places fields = list_of (string kind ∷ (map whole places ++ fields))

-- the lines of rows from a place on, in the list of this clerk where there is one
abbrev pub lines_from : {Row : Type 0} → List ℕ → (Row → List Data) → List ℕ → ℕ → List Row → List Data
lines_from kind fields clerk place [] = []
lines_from kind fields clerk place (row ∷ rows) =
    row_line kind (clerk ++ place ∷ []) (fields row) ∷ lines_from kind fields clerk (place + 1) rows

-- the lines of a table
abbrev pub table_lines : {Row : Type 0} → List ℕ → (Row → List Data) → List Row → List Data
table_lines kind fields rows = lines_from kind fields [] 0 rows

-- the lines of the clerks' own lists, from a clerk on
abbrev pub lists_from : {Row : Type 0} → List ℕ → (Row → List Data) → ℕ → List (List Row) → List Data
lists_from kind fields clerk [] = []
lists_from kind fields clerk (list ∷ lists) =
    lines_from kind fields (clerk ∷ []) 0 list ++ lists_from kind fields (clerk + 1) lists

-- the lines of the clerks' own lists
abbrev pub lists_lines : {Row : Type 0} → List ℕ → (Row → List Data) → List (List Row) → List Data
lists_lines kind fields lists = lists_from kind fields 0 lists

-- the lines of all rows, table by table
abbrev pub rows_lines : Rows → List Data
rows_lines rows =
    table_lines (codes "clerk") clerk_fields rows.clerks
    ++ table_lines (codes "schema") text_fields rows.schemas
    ++ table_lines (codes "master") text_fields rows.masters
    ++ table_lines (codes "rulebook") rulebook_fields rows.rulebooks
    ++ table_lines (codes "edition") edition_fields rows.editions
    ++ table_lines (codes "region") region_fields rows.regions
    ++ lists_lines (codes "session") session_fields rows.sessions
    ++ lists_lines (codes "record") record_fields rows.records
    ++ lists_lines (codes "batch") batch_fields rows.batches

-- the first line: the version of the form
abbrev pub first_line : Data
first_line = list_of (string (codes "fixdesk") ∷ whole 1 ∷ [])

-- the last line: how many stand before it
abbrev pub last_line : ℕ → Data
last_line count = list_of (string (codes "end") ∷ whole count ∷ [])

-- the lines before the last one
abbrev pub lines_of : Rows → List Data
lines_of rows = first_line ∷ rows_lines rows

-- the text of lines
abbrev pub text_of : List Data → List ℕ
text_of lines = flat_map (λ one. line (compact_text one)) lines

-- the text of a dump
abbrev pub dump_of : Rows → List ℕ
dump_of rows = text_of (lines_of rows ++ last_line (length (lines_of rows)) ∷ [])

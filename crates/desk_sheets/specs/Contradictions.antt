-- The text of the contradictions of a rule: CSV, as the crate `csv` writes it with its default settings (RFC 4180;
-- docs/formats.md, Contradictions).
use Rattle.std.specs.Prelude.{ℕ, List, [], ◌∷◌, map, codes, decimal, flat_map}
use Rattle.csv.specs.Writing.{default_writer, row_text}
use Rattle.desk_words.specs.declared.contradictions.ContradictionLine.{ContradictionLine}
use Rattle.desk_words.specs.declared.contradictions.ContradictionSheet.{ContradictionSheet}

-- the header
abbrev pub header : List (List ℕ)
header = codes "rule" ∷ codes "master" ∷ codes "row" ∷ codes "attribute" ∷ codes "text" ∷ codes "other_row"
    ∷ codes "other_text" ∷ []

-- the fields of a line: each row of the master with the text that the rule copies from it to the attribute
abbrev pub fields_of : ContradictionSheet → ContradictionLine → List (List ℕ)
fields_of sheet line = sheet.rule ∷ sheet.master ∷ decimal line.row ∷ sheet.attribute ∷ line.text
    ∷ decimal line.other_row ∷ line.other_text ∷ []

-- contradictions: the header, and a line for each
abbrev pub contradictions_text : ContradictionSheet → List ℕ
contradictions_text sheet = flat_map (row_text default_writer) (header ∷ map (fields_of sheet) sheet.lines)

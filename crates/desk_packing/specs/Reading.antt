-- The tables that lines stand for, found by reading the lines in the order of their keys.
use Rattle.std.specs.Prelude.{ℕ, zero, suc, ◌+◌, ◌^◌, Bool, true, false, ◌&&◌, ◌==◌, nat_lt, nat_le, if◌then◌else◌}
use Rattle.std.specs.Prelude.{List, [], ◌∷◌, length, Option, Some, None, option_map, option_and_then}
use Rattle.desk_words.specs.Tables.{Rows, empty_rows}
use Rattle.desk_packing.specs.declared.kinds.TheConstants.{VERSION, CLERKS, SCHEMAS, MASTERS, RULEBOOKS, EDITIONS}
use Rattle.desk_packing.specs.declared.kinds.TheConstants.{REGIONS, SESSIONS, RECORDS, BATCHES}
use Rattle.desk_packing.specs.Formats.{Format, whole}
use Rattle.desk_packing.specs.Lines.{Line, comes_before}
use Rattle.desk_packing.specs.RowFormats.{batch, clerk, committed, region, rulebook, session, text_row}
use Rattle.desk_packing.specs.Stands.{edition_in}

-- the line among lines in the order of their keys
abbrev pub insert_line : Line → List Line → List Line
insert_line line [] = line ∷ []
insert_line line (next ∷ lines) =
    if comes_before line next then line ∷ (next ∷ lines) else next ∷ insert_line line lines

-- the lines in the order of their keys
abbrev pub by_key : List Line → List Line
by_key [] = []
by_key (line ∷ lines) = insert_line line (by_key lines)

-- the line is a row of this list
abbrev pub is_of : ℕ → ℕ → Line → Bool
is_of kind owner line = (line.kind == kind) && (line.owner == owner)

-- the row of a line that stands at this place, which lists of fewer than 2 ^ 31 rows have
abbrev pub row_at : {A : Type 0} → Format A → ℕ → Line → Option A
row_at format place line =
    if (line.place == place) && nat_lt (place + 1) (2 ^ 31) then whole format line.body else None

-- the rows of a list, from a place on, that stand in front, and the lines after them
abbrev pub list_in : {A : Type 0} → Format A → ℕ → ℕ → ℕ → List Line → Option (List A × List Line)
list_in format kind owner place [] = Some ([], [])
list_in format kind owner place (line ∷ lines) =
    if is_of kind owner line
    then option_and_then
    (λ row. option_map (λ more. (row ∷ more.0, more.1)) (list_in format kind owner (place + 1) lines))
    (row_at format place line)
    else Some ([], line ∷ lines)

-- the lists of so many clerks, from a clerk on, that stand in front, and the lines after them
abbrev pub lists_in : {A : Type 0} → Format A → ℕ → ℕ → ℕ → List Line → Option (List (List A) × List Line)
lists_in format kind owner zero lines = Some ([], lines)
lists_in format kind owner (suc clerks) lines = option_and_then
    (λ rows. option_map (λ more. (rows.0 ∷ more.0, more.1)) (lists_in format kind (owner + 1) clerks rows.1))
    (list_in format kind owner 0 lines)

-- the next step is taken on what was found
abbrev pub ◌>>=◌ : {A B : Type 0} → Option A → (A → Option B) → Option B
◌>>=◌ found next = option_and_then next found

-- the tables whose lines these are, after the line of the version
abbrev pub tables_in : Bool → List Line → Option Rows
tables_in is_old lines = do
  clerks ← list_in clerk CLERKS 0 0 lines
  schemas ← list_in text_row SCHEMAS 0 0 clerks.1
  masters ← list_in text_row MASTERS 0 0 schemas.1
  rulebooks ← list_in rulebook RULEBOOKS 0 0 masters.1
  editions ← list_in (edition_in is_old) EDITIONS 0 0 rulebooks.1
  regions ← list_in region REGIONS 0 0 editions.1
  sessions ← lists_in session SESSIONS 0 (length clerks.0) regions.1
  records ← lists_in committed RECORDS 0 (length clerks.0) sessions.1
  batches ← lists_in batch BATCHES 0 (length clerks.0) records.1
  if nat_le 1 (length clerks.0) && nat_le (length batches.1) 0
      then Some (record {
        clerks = clerks.0;
        schemas = schemas.0;
        masters = masters.0;
        rulebooks = rulebooks.0;
        editions = editions.0;
        regions = regions.0;
        sessions = sessions.0;
        records = records.0;
        batches = batches.0;
      })
      else None

-- whether the byte is that of the old version, where it is that of one
abbrev pub version_of : List ℕ → Option Bool
version_of [] = None
version_of (byte ∷ []) = if byte == 1 then Some true else (if byte == 2 then Some false else None)
version_of (byte ∷ (next ∷ rest)) = None

-- the line's version, where it is the line of one
abbrev pub version_in : Line → Option Bool
version_in line = if is_of VERSION 0 line && (line.place == 0) then version_of line.body else None

-- the tables of lines in the order of their keys
abbrev pub rows_in_order : List Line → Option Rows
rows_in_order [] = Some empty_rows
rows_in_order (line ∷ lines) = option_and_then (λ is_old. tables_in is_old lines) (version_in line)

-- the tables that the lines stand for
abbrev pub rows_in : List Line → Option Rows
rows_in lines = rows_in_order (by_key lines)

-- What is taken though it is likely a slip: of each kind one sentence, on the first, with how many more there are.
use Rattle.std.specs.Prelude.{ℕ, ◌+◌, ◌-◌, ◌%◌, ◌==◌, Bool, not, ◌||◌, nat_eq, if◌then◌else◌, List, [], ◌∷◌, ◌++◌, length}
use Rattle.std.specs.Prelude.{take, count_by, flat_map, position, slice_index_or, codes, decimal}
use Rattle.std.specs.Prelude.{Option, Some, None, option_map}
use Rattle.std.specs.List.{ends_with, list_any, range_with_len, starts_with}
use Rattle.std.specs.Option.{option_map_or, option_or}
use Rattle.std.specs.Str.{str_eq_ignore_ascii_case}
use Rattle.desk_base.specs.Grid.{GridRows, cell_text}
use Rattle.desk_base.specs.Places.{has_text}
use Rattle.master_rows.specs.declared.master.Master.{Master}
use Rattle.rule_text.specs.declared.rulebook.RuleLine.{RuleLine}
use Rattle.schema_core.specs.declared.schema.Schema.{Schema}
use Rattle.fault_sentences.specs.declared.bindings.Over.TheVariants.{Desk}
use Rattle.fault_sentences.specs.declared.slips.Slip.{Slip}
use Rattle.fault_sentences.specs.declared.slips.Slip.TheVariants.{Torn, Spaced}
use Rattle.fault_sentences.specs.Bindings.{no_master, wants_column}
use Rattle.fault_sentences.specs.Equals.{numbered}
use Rattle.fault_sentences.specs.Lists.{listed}
use Rattle.fault_sentences.specs.Records.{fields_at}
use Rattle.fault_sentences.specs.Shown.{quoted, shown}

-- how many more there are: none, one, or some
unfoldable pub so_more : List ℕ → List ℕ → List ℕ → ℕ → List ℕ
so_more one some units count =
    if count == 0 then [] else if count == 1 then one else some ++ decimal count ++ units

-- ---- a sheet that has one column, and seems to have more

-- the byte stands in the text
abbrev pub has_byte : ℕ → List ℕ → Bool
has_byte byte text = list_any (λ one. byte == one) text

-- `the sheet has one column, "code;town"; if a semicolon parts its columns, put a comma there`
unfoldable pub parted_note : List ℕ → List ℕ → List ℕ
parted_note column mark =
    codes "the sheet has one column, " ++ quoted column ++ codes "; if " ++ mark
    ++ codes " parts its columns, put a comma there"

-- one column whose name has a semicolon or a tab
abbrev pub parted_notes : List (List ℕ) → List (List ℕ)
parted_notes (column ∷ []) =
    if has_byte 59 column then parted_note column (codes "a semicolon") ∷ []
    else if has_byte 9 column then parted_note column (codes "a tab") ∷ []
    else []
parted_notes columns = []

-- ---- cells

-- a line end, LF or CR
abbrev pub is_line_end : ℕ → Bool
is_line_end byte = (byte == 10) || (byte == 13)

-- how many quotes a text has
abbrev pub quotes : List ℕ → ℕ
quotes text = count_by (λ byte. byte == 34) text

-- a line end in it, or a lone quote
abbrev pub is_torn : List ℕ → Bool
is_torn cell = list_any is_line_end cell || (quotes cell % 2 == 1)

-- a space at one of its ends
abbrev pub is_spaced : List ℕ → Bool
is_spaced cell = starts_with nat_eq cell (32 ∷ []) || ends_with nat_eq cell (32 ∷ [])

-- a cell has this kind of slip
abbrev pub is_slip : Slip → List ℕ → Bool
is_slip Torn cell = is_torn cell
is_slip Spaced cell = is_spaced cell

-- the cell of a row and a column, both from 0, if it has the slip
abbrev pub slip_at : Slip → GridRows → ℕ → ℕ → List (ℕ × ℕ)
slip_at slip grid row column = if is_slip slip (cell_text grid row column) then (row, column) ∷ [] else []

-- those of a row that have it
abbrev pub slips_in_row : Slip → GridRows → ℕ → List (ℕ × ℕ)
slips_in_row slip grid row = flat_map (slip_at slip grid row) (range_with_len 0 grid.columns)

-- all that have it, row after row
abbrev pub slips_in : Slip → GridRows → List (ℕ × ℕ)
slips_in slip grid = flat_map (slips_in_row slip grid) (range_with_len 0 (length grid.rows))

-- the words for it
abbrev pub slip_words : Slip → List ℕ
slip_words Torn = codes ", with a line end or a lone quote"
slip_words Spaced = codes ", with a space at an end"

-- the row of a cell, what stands there, and its column
unfoldable pub cell_told : Master → ℕ → ℕ → List ℕ
cell_told master row column =
    codes "row " ++ decimal (row + 1) ++ codes " has " ++ quoted (cell_text master.grid row column)
    ++ codes " in the column " ++ shown (slice_index_or master.columns column [])

-- `row 3 has "Ayr " in the column town, with a space at an end; so have 12 more cells`
unfoldable pub cell_note : Slip → Master → ℕ × ℕ → ℕ → List ℕ
cell_note slip master place more =
    cell_told master place.0 place.1 ++ slip_words slip
    ++ so_more (codes "; so has 1 more cell") (codes "; so have ") (codes " more cells") more

-- the first cell of these, with how many others there are
abbrev pub cells_told : Slip → Master → List (ℕ × ℕ) → List (List ℕ)
cells_told slip master [] = []
cells_told slip master (first ∷ others) = cell_note slip master first (length others) ∷ []

-- the cells of a master that have this kind of slip
abbrev pub cell_notes : Slip → Master → List (List ℕ)
cell_notes slip master = cells_told slip master (slips_in slip master.grid)

-- ---- names that are equal up to case

-- the place of the first earlier name that equals the name at a place up to the case of ASCII letters
abbrev pub earlier_twin : List (List ℕ) → ℕ → Option ℕ
earlier_twin names later =
    position (str_eq_ignore_ascii_case (slice_index_or names later [])) (take later names)

-- the numbers of both, from 1, the later one first
abbrev pub twin_at : List (List ℕ) → ℕ → List (ℕ × ℕ)
twin_at names later = option_map_or (λ earlier. (later + 1, earlier + 1) ∷ []) (earlier_twin names later) []

-- each name that equals an earlier one so
abbrev pub twins : List (List ℕ) → List (ℕ × ℕ)
twins names = flat_map (twin_at names) (range_with_len 0 (length names))

-- what has a number, and its name
abbrev pub name_told : List ℕ → List (List ℕ) → ℕ → List ℕ
name_told what names number = numbered what number (slice_index_or names (number - 1) [])

-- `column 3, Zip, equals column 1, zip, up to case; so do 2 more`
unfoldable pub twin_note : List ℕ → List (List ℕ) → ℕ × ℕ → ℕ → List ℕ
twin_note what names pair more =
    name_told what names pair.0 ++ codes ", equals " ++ name_told what names pair.1 ++ codes ", up to case"
    ++ so_more (codes "; so does 1 more") (codes "; so do ") (codes " more") more

-- the first of these pairs, with how many others there are
abbrev pub twins_told : List ℕ → List (List ℕ) → List (ℕ × ℕ) → List (List ℕ)
twins_told what names [] = []
twins_told what names (first ∷ others) = twin_note what names first (length others) ∷ []

-- the names that equal earlier ones up to case
abbrev pub twin_notes : List ℕ → List (List ℕ) → List (List ℕ)
twin_notes what names = twins_told what names (twins names)

-- ---- the notes on what is proposed

-- on a schema: its attributes
abbrev pub schema_notes : Schema → List (List ℕ)
schema_notes schema = twin_notes (codes "attribute ") schema.attributes

-- on a sheet: its header, its cells and its columns
abbrev pub sheet_notes : Master → List (List ℕ)
sheet_notes master =
    parted_notes master.columns ++ cell_notes Torn master ++ cell_notes Spaced master
    ++ twin_notes (codes "column ") master.columns

-- ---- rules, over what the desk has

-- a rule that looks into a master of which the desk has no version
abbrev pub absent_note : RuleLine → List ℕ
absent_note line = no_master Desk line

-- what binding tests first of a rule that these columns lack: a key by its number, or 0 for the column that is copied
abbrev pub lacking_place : List (List ℕ) → RuleLine → Option ℕ
lacking_place columns line =
    option_or (option_map (λ place. place + 1) (position (λ key. not (has_text columns key.1)) line.keys))
    (if has_text columns line.from then None else Some 0)

-- a column that the newest version of its master does not have
unfoldable pub lacking_note : RuleLine → ℕ → List (List ℕ) → ℕ → List ℕ
lacking_note line version columns place =
    wants_column line place ++ codes ", which version " ++ decimal version ++ codes " of the master "
    ++ shown line.master ++ codes ", its newest, does not have; its columns are " ++ listed columns

-- the first such column of a rule, over the version and the sheet that are the newest of its master
abbrev pub column_note : RuleLine → ℕ → List ℕ → Option (List ℕ)
column_note line version sheet =
    option_map (lacking_note line version (fields_at sheet 0)) (lacking_place (fields_at sheet 0) line)

-- a sentence on a rule, with how many other rules lack something
abbrev pub rules_note : List ℕ → ℕ → List ℕ
rules_note first more =
    first ++ so_more (codes "; 1 more rule lacks a master or a column") (codes "; ")
    (codes " more rules lack a master or a column") more

-- the first of these sentences, one for each rule that lacks something, with how many others there are
abbrev pub rules_told : List (List ℕ) → List (List ℕ)
rules_told [] = []
rules_told (first ∷ others) = rules_note first (length others) ∷ []

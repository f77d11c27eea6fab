-- The notes are printable ASCII.
use Rattle.std.proofs.Common.{ℕ, ◌-◌, Bool, true, false, List, [], ◌∷◌, length, refl}
use Rattle.std.specs.Prelude.{codes, if◌then◌else◌, option_map, slice_index_or, Option, Some, None, IfSome}
use Rattle.std.proofs.lemmas.Bool.{and_from, and_parts}
use Rattle.std.proofs.lemmas.List.Folds.{list_all-append}
use Rattle.master_rows.specs.declared.master.Master.{Master}
use Rattle.rule_text.specs.declared.rulebook.RuleLine.{RuleLine}
use Rattle.schema_core.specs.declared.schema.Schema.{Schema}
use Rattle.fault_sentences.specs.declared.slips.Slip.{Slip}
use Rattle.fault_sentences.specs.declared.slips.Slip.TheVariants.{Torn, Spaced}
use Rattle.fault_sentences.specs.Bindings.{no_master, wants_column}
use Rattle.fault_sentences.specs.Notes.{absent_note, cell_note, cell_told, cells_told, column_note, has_byte}
use Rattle.fault_sentences.specs.Notes.{lacking_note, lacking_place, parted_note, parted_notes, rules_told}
use Rattle.fault_sentences.specs.Notes.{schema_notes, sheet_notes, slip_words, slips_in, so_more, twin_note}
use Rattle.fault_sentences.specs.Notes.{twins, twins_told}
use Rattle.fault_sentences.specs.Printable.{ArePrintable, IsPrintable}
use Rattle.fault_sentences.specs.Records.{fields_at}
use Rattle.fault_sentences.proofs.Printable.{decimal-printable, if-same, list_all-if, listed-printable}
use Rattle.fault_sentences.proofs.Printable.{numbered-printable, printable-append, quoted-printable, shown-printable}
use Rattle.fault_sentences.proofs.PrintableBindings.{lacks-printable}

-- how many more there are
so_more-printable : (one some units : List ℕ) (count : ℕ) → IsPrintable one → IsPrintable some → IsPrintable units
    → IsPrintable (so_more one some units count)
unfolding so_more
so_more-printable one some units count first second third =
    simp (list_all-if, if-same, list_all-append, first, second, third, decimal-printable)

-- a column that seems to be several
parted_note-printable : (column mark : List ℕ) → IsPrintable mark → IsPrintable (parted_note column mark)
unfolding parted_note
parted_note-printable column mark is = simp (list_all-append, quoted-printable, is)

-- by whether it has a semicolon, or else a tab
parted-printable : (semicolon tab : Bool) (column : List ℕ)
    → ArePrintable (if semicolon then parted_note column (codes "a semicolon") ∷ []
    else if tab then parted_note column (codes "a tab") ∷ [] else [])
parted-printable true tab column = and_from _ _ (parted_note-printable column (codes "a semicolon") refl) refl
parted-printable false true column = and_from _ _ (parted_note-printable column (codes "a tab") refl) refl
parted-printable false false column = refl

parted_notes-printable : (columns : List (List ℕ)) → ArePrintable (parted_notes columns)
parted_notes-printable [] = refl
parted_notes-printable (column ∷ []) = parted-printable (has_byte 59 column) (has_byte 9 column) column
parted_notes-printable (column ∷ other ∷ more) = refl

-- cells
slip_words-printable : (slip : Slip) → IsPrintable (slip_words slip)
slip_words-printable Torn = refl
slip_words-printable Spaced = refl

cell_note-printable : (slip : Slip) (master : Master) (place : ℕ × ℕ) (more : ℕ)
    → IsPrintable (cell_note slip master place more)
unfolding cell_note cell_told
cell_note-printable slip master place more =
    let others =
    so_more-printable (codes "; so has 1 more cell") (codes "; so have ") (codes " more cells") more refl refl refl in
    simp (list_all-append, decimal-printable, quoted-printable, shown-printable, slip_words-printable, others)

cells_told-printable : (slip : Slip) (master : Master) (slips : List (ℕ × ℕ))
    → ArePrintable (cells_told slip master slips)
cells_told-printable slip master [] = refl
cells_told-printable slip master (first ∷ others) =
    and_from _ _ (cell_note-printable slip master first (length others)) refl

-- names that are equal up to case
twin_note-printable : (what : List ℕ) (names : List (List ℕ)) (pair : ℕ × ℕ) (more : ℕ) → IsPrintable what
    → IsPrintable (twin_note what names pair more)
unfolding twin_note
twin_note-printable what names pair more is =
    let later = numbered-printable what pair.0 (slice_index_or names (pair.0 - 1) []) is in
    let earlier = numbered-printable what pair.1 (slice_index_or names (pair.1 - 1) []) is in
    let others = so_more-printable (codes "; so does 1 more") (codes "; so do ") (codes " more") more refl refl refl in
    simp (list_all-append, later, earlier, others)

twins_told-printable : (what : List ℕ) (names : List (List ℕ)) (pairs : List (ℕ × ℕ)) → IsPrintable what
    → ArePrintable (twins_told what names pairs)
twins_told-printable what names [] is = refl
twins_told-printable what names (first ∷ others) is =
    and_from _ _ (twin_note-printable what names first (length others) is) refl

-- the notes on a schema
pub schema_notes-printable : (schema : Schema) → ArePrintable (schema_notes schema)
schema_notes-printable schema =
    twins_told-printable (codes "attribute ") schema.attributes (twins schema.attributes) refl

-- those on a sheet
pub sheet_notes-printable : (master : Master) → ArePrintable (sheet_notes master)
sheet_notes-printable master =
    let parted = parted_notes-printable master.columns in
    let torn = cells_told-printable Torn master (slips_in Torn master.grid) in
    let spaced = cells_told-printable Spaced master (slips_in Spaced master.grid) in
    let alike = twins_told-printable (codes "column ") master.columns (twins master.columns) refl in
    simp (list_all-append, parted, torn, spaced, alike)

-- a rule whose master is not there
pub absent_note-printable : (line : RuleLine) → IsPrintable (absent_note line)
unfolding no_master
absent_note-printable line = simp (list_all-append, shown-printable, lacks-printable)

-- a rule that lacks a column
lacking_note-printable : (line : RuleLine) (version : ℕ) (columns : List (List ℕ)) (place : ℕ)
    → IsPrintable (lacking_note line version columns place)
unfolding lacking_note wants_column
lacking_note-printable line version columns place =
    simp (list_all-if, if-same, list_all-append, shown-printable, decimal-printable, listed-printable)

-- what is told of a place that is there
mapped-printable : (told : ℕ → List ℕ) (place : Option ℕ) → ((one : ℕ) → IsPrintable (told one))
    → IfSome (option_map told place) IsPrintable
mapped-printable told None is = tt
mapped-printable told (Some place) is = is place

pub column_note-printable : (line : RuleLine) (version : ℕ) (sheet : List ℕ)
    → IfSome (column_note line version sheet) IsPrintable
column_note-printable line version sheet =
    mapped-printable (lacking_note line version (fields_at sheet 0)) (lacking_place (fields_at sheet 0) line)
    (lacking_note-printable line version (fields_at sheet 0))

-- the note on rules
pub rules_told-printable : (sentences : List (List ℕ)) → ArePrintable sentences → ArePrintable (rules_told sentences)
rules_told-printable [] are = refl
rules_told-printable (first ∷ others) are =
    let more =
    so_more-printable (codes "; 1 more rule lacks a master or a column") (codes "; ")
    (codes " more rules lack a master or a column") (length others) refl refl refl in
    and_from _ _ (printable-append first _ (and_parts _ _ are).0 more) refl

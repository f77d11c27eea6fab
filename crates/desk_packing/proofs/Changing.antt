-- The lines of changes make the lines of tables those of the changed tables.
use Rattle.std.proofs.Common.{◌≡◌, inl, inr, ℕ, zero, suc, ◌+◌, ◌<◌, false, ◌==◌, List, [], ◌∷◌, ◌++◌, length, map}
use Rattle.std.proofs.Common.{set, refl, ap, ◌∙◌, arith}
use Rattle.std.specs.Prelude.{IsPermutation, slice_index}
use Rattle.std.specs.List.{AllByRecursion}
use Rattle.std.proofs.lemmas.Bool.{cases_Bool}
use Rattle.std.proofs.lemmas.List.{length-map, length_push, map-set, map_push}
use Rattle.std.proofs.lemmas.List.Sorted.{IsPermutation-sym, IsPermutation-trans}
use Rattle.desk_words.specs.declared.change.Change.{Change}
use Rattle.desk_words.specs.declared.change.Change.TheVariants.{Clerk, Schema, Master, Rulebook, Edition, Region}
use Rattle.desk_words.specs.declared.change.Change.TheVariants.{Session, Record, Batch}
use Rattle.desk_words.specs.declared.rows.batch.BatchRow.{BatchRow}
use Rattle.desk_words.specs.declared.rows.record.RecordRow.{RecordRow}
use Rattle.desk_words.specs.declared.rows.session.SessionRow.{SessionRow}
use Rattle.desk_base.proofs.Lists.{AllByRecursion-push}
use Rattle.desk_words.proofs.Changes.{AreTables-changed, AreTables-changed_all, length-put, put-end}
use Rattle.desk_words.specs.Changes.{FitAll, Fits, changed, changed_all, put, with_clerk, with_list}
use Rattle.desk_words.specs.Tables.{AreTables, Rows, list_at}
use Rattle.desk_packing.specs.Formats.{Format}
use Rattle.desk_packing.specs.Lines.{Line, put_line, put_lines}
use Rattle.desk_packing.specs.RowFormats.{batch, clerk, committed, edition, region, rulebook, session, text_row}
use Rattle.desk_packing.specs.Shapes.{FitLengths, FitsFields, FitsIn, grown, grown_all, line_of_change}
use Rattle.desk_packing.specs.Shapes.{lines_of_changes}
use Rattle.desk_packing.specs.Shapes.{shape_of, with_empty}
use Rattle.desk_packing.specs.Stands.{FitFields, StandIn, lines_of, list_lines, own_lines, row_line}
use Rattle.desk_packing.proofs.Joined.{joined, puts-joined}
use Rattle.desk_packing.proofs.Putting.{Puts, own_lines-with_clerk, puts-list, puts-own, puts-permutation}
use Rattle.desk_packing.proofs.Stood.{AreParts-parts_of, parts_of}

-- the length of a clerk's list
pub length-list_at : {A : Type 0} (lists : List (List A)) (owner : ℕ)
    → slice_index (map length lists) owner ≡ length (list_at lists owner)
length-list_at [] owner = refl
length-list_at (rows ∷ lists) zero = refl
length-list_at (rows ∷ lists) (suc owner) = length-list_at lists owner

module _ {A : Type 0} (format : Format A) (kind : ℕ) where
  -- a row is put after the others of a list
  puts-end : (rows : List A) (row : A) → Puts (list_lines format kind 0 0 rows)
      (row_line format kind 0 (length rows) row) (list_lines format kind 0 0 (rows ++ row ∷ []))
  puts-end rows row = rw (← put-end rows row) (puts-list format kind 0 rows (length rows) row (omega arith))

  -- a row is put after the others of a clerk's list
  puts-own_end : (lists : List (List A)) (owner : ℕ) (row : A) → owner < length lists
      → Puts (own_lines format kind 0 lists) (row_line format kind owner (slice_index (map length lists) owner) row)
      (own_lines format kind 0 (with_list lists owner (list_at lists owner ++ row ∷ [])))
  puts-own_end lists owner row there =
      rw (length-list_at lists owner, ← put-end (list_at lists owner) row)
      (puts-own format kind lists owner (length (list_at lists owner)) row there (omega arith))

-- the line of a change makes the lines of tables those of the changed tables
pub puts-change : (rows : Rows) (change : Change) → AreTables rows → Fits rows change
    → Puts (lines_of rows) (line_of_change (shape_of rows) change) (lines_of (changed rows change))
puts-change rows change are fits = put_over change fits
  where
    at_part : (kind : ℕ) (line : Line) (after : List Line) → line.kind ≡ 0 + kind → kind < 10
        → Puts (list_at (parts_of false rows) kind) line after
        → Puts (lines_of rows) line (joined (set (parts_of false rows) kind after))
    at_part kind line after of there = puts-joined kind 0 (parts_of false rows) line after
        (AreParts-parts_of false rows)
        of there

    put_over : (change : Change) → Fits rows change
        → Puts (lines_of rows) (line_of_change (shape_of rows) change) (lines_of (changed rows change))
    put_over (Clerk place row) (inside, few) =
        rw (
          own_lines-with_clerk session 7 rows.sessions place (length rows.clerks),
          own_lines-with_clerk committed 8 rows.records place (length rows.clerks),
          own_lines-with_clerk batch 9 rows.batches place (length rows.clerks),
        ) (at_part 1 (row_line clerk 1 0 place row) _ refl (omega arith)
        (puts-list clerk 1 0 rows.clerks place row inside))
    put_over (Schema row) fits = at_part 2 _ _ refl (omega arith) (puts-end text_row 2 rows.schemas row)
    put_over (Master row) fits = at_part 3 _ _ refl (omega arith) (puts-end text_row 3 rows.masters row)
    put_over (Rulebook row) fits = at_part 4 _ _ refl (omega arith) (puts-end rulebook 4 rows.rulebooks row)
    put_over (Edition row) fits = at_part 5 _ _ refl (omega arith) (puts-end edition 5 rows.editions row)
    put_over (Region row) fits = at_part 6 _ _ refl (omega arith) (puts-end region 6 rows.regions row)
    put_over (Session owner place row) (there, fits) = at_part 7 _ _ refl (omega arith)
        (puts-own session 7 rows.sessions owner place row (omega (arith, are.sessions.each)) fits.0)
    put_over (Record owner row) (there, fits) = at_part 8 _ _ refl (omega arith)
        (puts-own_end committed 8 rows.records owner row (omega (arith, are.records.each)))
    put_over (Batch owner row) (there, fits) = at_part 9 _ _ refl (omega arith)
        (puts-own_end batch 9 rows.batches owner row (omega (arith, are.batches.each)))

-- there is one length more where a clerk comes
map-with_clerk : {A : Type 0} (lists : List (List A)) (place clerks : ℕ)
    → map length (with_clerk lists place clerks) ≡ with_empty (map length lists) place clerks
map-with_clerk lists place clerks = elim (cases_Bool (place == clerks)) [
  | inl new ↦ rw new (map_push length lists [])
  | inr there ↦ rw there refl
]

-- one length is replaced where a clerk's list is
map-with_list : {A : Type 0} (lists : List (List A)) (owner : ℕ) (rows : List A)
    → map length (with_list lists owner rows) ≡ set (map length lists) owner (length rows)
map-with_list lists owner rows = map-set length lists owner rows

-- a clerk's list has one row more
map-with_list-end : {A : Type 0} (lists : List (List A)) (owner : ℕ) (row : A)
    → map length (with_list lists owner (list_at lists owner ++ row ∷ []))
    ≡ set (map length lists) owner (slice_index (map length lists) owner + 1)
map-with_list-end lists owner row =
    rw (
      map-with_list lists owner (list_at lists owner ++ row ∷ []),
      length_push (list_at lists owner) row,
      length-list_at lists owner,
    ) refl

-- the lengths of the changed tables
pub shape-changed : (rows : Rows) (change : Change) → shape_of (changed rows change) ≡ grown (shape_of rows) change
shape-changed rows (Clerk place row) =
    rw (
      map-with_clerk rows.sessions place (length rows.clerks),
      map-with_clerk rows.records place (length rows.clerks),
      map-with_clerk rows.batches place (length rows.clerks),
      length-put rows.clerks place row,
    ) refl
shape-changed rows (Schema row) = rw (length_push rows.schemas row) refl
shape-changed rows (Master row) = rw (length_push rows.masters row) refl
shape-changed rows (Rulebook row) = rw (length_push rows.rulebooks row) refl
shape-changed rows (Edition row) = rw (length_push rows.editions row) refl
shape-changed rows (Region row) = rw (length_push rows.regions row) refl
shape-changed rows (Session owner place row) =
    rw (
      map-with_list rows.sessions owner (put (list_at rows.sessions owner) place row),
      length-put (list_at rows.sessions owner) place row,
      length-list_at rows.sessions owner,
    ) refl
shape-changed rows (Record owner row) = rw (map-with_list-end rows.records owner row) refl
shape-changed rows (Batch owner row) = rw (map-with_list-end rows.batches owner row) refl

-- and those after all changes
pub shape-changed_all : (rows : Rows) (changes : List Change)
    → shape_of (changed_all rows changes) ≡ grown_all (shape_of rows) changes
shape-changed_all rows [] = refl
shape-changed_all rows (change ∷ changes) =
    shape-changed_all (changed rows change) changes
    ∙ ap (λ shape. grown_all shape changes) (shape-changed rows change)

-- what fits tables fits their lengths
pub FitsIn-Fits : (rows : Rows) (change : Change) → AreTables rows → Fits rows change → FitsIn (shape_of rows) change
FitsIn-Fits rows (Clerk place row) are fits = fits
FitsIn-Fits rows (Schema row) are fits = fits
FitsIn-Fits rows (Master row) are fits = fits
FitsIn-Fits rows (Rulebook row) are fits = fits
FitsIn-Fits rows (Edition row) are fits = fits
FitsIn-Fits rows (Region row) are fits = fits
FitsIn-Fits rows (Session owner place row) are fits = (
  omega (arith, are.sessions.each, fits.0, length-map rows.sessions (length {A = SessionRow})),
  rw (length-list_at rows.sessions owner) fits.1,
)
FitsIn-Fits rows (Record owner row) are fits = (
  omega (arith, are.records.each, fits.0, length-map rows.records (length {A = RecordRow})),
  rw (length-list_at rows.records owner) fits.1,
)
FitsIn-Fits rows (Batch owner row) are fits = (
  omega (arith, are.batches.each, fits.0, length-map rows.batches (length {A = BatchRow})),
  rw (length-list_at rows.batches owner) fits.1,
)

pub FitLengths-FitAll : (rows : Rows) (changes : List Change) → AreTables rows → FitAll rows changes
    → FitLengths (shape_of rows) changes
FitLengths-FitAll rows [] are fit = tt
FitLengths-FitAll rows (change ∷ changes) are fit = (
  FitsIn-Fits rows change are fit.0,
  rw (← shape-changed rows change)
      (FitLengths-FitAll (changed rows change) changes (AreTables-changed rows change fit.0 are) fit.1),
)

-- the lines of changes, put over those of tables, are those of the changed tables
pub puts-changes : (lines : List Line) (rows : Rows) (changes : List Change) → IsPermutation lines (lines_of rows)
    → AreTables rows → FitAll rows changes
    → IsPermutation (put_lines lines (lines_of_changes (shape_of rows) changes)) (lines_of (changed_all rows changes))
puts-changes lines rows [] same are fit = same
puts-changes lines rows (change ∷ changes) same are fit =
    let line = line_of_change (shape_of rows) change in
    let next = changed rows change in
    let put_over = IsPermutation-trans (put_line lines line) (put_line (lines_of rows) line) (lines_of next)
    (puts-permutation lines (lines_of rows) line same) (puts-change rows change are fit.0) in
    rw (← shape-changed rows change)
    (puts-changes (put_line lines line) next changes put_over (AreTables-changed rows change fit.0 are) fit.1)

-- what holds of each item and of the one that replaces another
each-set : {A : Type 0} (P : A → Type 0) (rows : List A) (place : ℕ) (x : A) → AllByRecursion P rows → P x
    → AllByRecursion P (set rows place x)
each-set P [] place x each holds = tt
each-set P (y ∷ rows) zero x each holds = (holds, each.1)
each-set P (y ∷ rows) (suc place) x each holds = (each.0, each-set P rows place x each.1 holds)

-- a row among others that hold something
each-put : {A : Type 0} (P : A → Type 0) (rows : List A) (place : ℕ) (x : A) → AllByRecursion P rows → P x
    → AllByRecursion P (put rows place x)
each-put P rows place x each holds = elim (cases_Bool (place == length rows)) [
  | inl last ↦ rw last (AllByRecursion-push P rows x each holds)
  | inr inside ↦ rw inside (each-set P rows place x each holds)
]

-- what holds of the rows of each clerk holds of those of one
each-list_at : {A : Type 0} (P : A → Type 0) (lists : List (List A)) (owner : ℕ)
    → AllByRecursion (AllByRecursion P) lists
    → AllByRecursion P (list_at lists owner)
each-list_at P [] owner each = tt
each-list_at P (rows ∷ lists) zero each = each.0
each-list_at P (rows ∷ lists) (suc owner) each = each-list_at P lists owner each.1

-- a clerk's list gets a row of which it holds too
each-with_list-end : {A : Type 0} (P : A → Type 0) (lists : List (List A)) (owner : ℕ) (row : A)
    → AllByRecursion (AllByRecursion P) lists → P row
    → AllByRecursion (AllByRecursion P) (with_list lists owner (list_at lists owner ++ row ∷ []))
each-with_list-end P lists owner row each holds = each-set (AllByRecursion P) lists owner _ each
    (AllByRecursion-push P (list_at lists owner) row (each-list_at P lists owner each) holds)

-- there is one empty list more where a clerk comes
each-with_clerk : {A : Type 0} (P : A → Type 0) (lists : List (List A)) (place clerks : ℕ)
    → AllByRecursion (AllByRecursion P) lists → AllByRecursion (AllByRecursion P) (with_clerk lists place clerks)
each-with_clerk P lists place clerks each = elim (cases_Bool (place == clerks)) [
  | inl new ↦ rw new (AllByRecursion-push (AllByRecursion P) lists [] each tt)
  | inr there ↦ rw there each
]

-- rows that fit their fields still do after a change whose row does
FitFields-changed : (rows : Rows) (change : Change) → FitFields false rows → FitsFields change
    → FitFields false (changed rows change)
FitFields-changed rows (Clerk place row) fit fields = assumption (
  each-put clerk.Fits rows.clerks place row fit.clerks fields,
  each-with_clerk session.Fits rows.sessions place (length rows.clerks) fit.sessions,
  each-with_clerk committed.Fits rows.records place (length rows.clerks) fit.records,
  each-with_clerk batch.Fits rows.batches place (length rows.clerks) fit.batches,
)
FitFields-changed rows (Schema row) fit fields =
    assumption (AllByRecursion-push text_row.Fits rows.schemas row fit.schemas fields)
FitFields-changed rows (Master row) fit fields =
    assumption (AllByRecursion-push text_row.Fits rows.masters row fit.masters fields)
FitFields-changed rows (Rulebook row) fit fields =
    assumption (AllByRecursion-push rulebook.Fits rows.rulebooks row fit.rulebooks fields)
FitFields-changed rows (Edition row) fit fields =
    assumption (AllByRecursion-push edition.Fits rows.editions row fit.editions fields)
FitFields-changed rows (Region row) fit fields =
    assumption (AllByRecursion-push region.Fits rows.regions row fit.regions fields)
FitFields-changed rows (Session owner place row) fit fields =
    assumption (each-set (AllByRecursion session.Fits) rows.sessions owner (put (list_at rows.sessions owner) place row)
    fit.sessions (each-put session.Fits (list_at rows.sessions owner) place row
    (each-list_at session.Fits rows.sessions owner fit.sessions) fields))
FitFields-changed rows (Record owner row) fit fields =
    assumption (each-with_list-end committed.Fits rows.records owner row fit.records fields)
FitFields-changed rows (Batch owner row) fit fields =
    assumption (each-with_list-end batch.Fits rows.batches owner row fit.batches fields)

-- and after all changes whose rows do
FitFields-changed_all : (rows : Rows) (changes : List Change) → FitFields false rows → AllByRecursion FitsFields changes
    → FitFields false (changed_all rows changes)
FitFields-changed_all rows [] fit fields = fit
FitFields-changed_all rows (change ∷ changes) fit fields =
    FitFields-changed_all (changed rows change) changes (FitFields-changed rows change fit fields.0) fields.1

-- lines that stand for tables stand for the changed tables once the lines of the changes are put
pub StandIn-changes : (lines : List Line) (rows : Rows) (changes : List Change) → StandIn false lines rows
    → FitAll rows changes → AllByRecursion FitsFields changes
    → StandIn false (put_lines lines (lines_of_changes (shape_of rows) changes)) (changed_all rows changes)
StandIn-changes lines rows changes stand fit fields = record {
  tables = AreTables-changed_all rows changes fit stand.tables;
  fit = FitFields-changed_all rows changes stand.fit fields;
  same =
      let after = put_lines lines (lines_of_changes (shape_of rows) changes) in
      IsPermutation-sym after (lines_of (changed_all rows changes))
      (puts-changes lines rows changes (IsPermutation-sym (lines_of rows) lines stand.same) stand.tables fit);
}

-- What is printed reads back.
use Rattle.std.proofs.Common.{◌≡◌, ℕ, ◌≤◌, ◌==◌, ◌&&◌, List, [], ◌∷◌, ◌++◌, Bool, true, false, length, refl, sym, ◌∙◌}
use Rattle.std.proofs.Common.{arith, inl, inr, append_assoc}
use Rattle.std.specs.Prelude.{Ok, All, nat_eq}
use Rattle.std.specs.List.{flat_map, list_any, starts_with}
use Rattle.std.proofs.lemmas.Bool.{cases_Bool, and_parts, eqb-true, ne_eqb}
use Rattle.std.proofs.lemmas.List.{append-nil}
use Rattle.std.proofs.lemmas.List.Elements.{All-cons, All-head, All-tail}
use Rattle.csv.specs.Machine.{next_record}
use Rattle.csv.specs.Reading.{Reached, default_config, records, strip_bom, is_bom}
use Rattle.csv.specs.Writing.{default_writer, field_text, fields_text, needs_byte, row_text, is_blank}
use Rattle.csv.specs.declared.parser.State.TheVariants as st
use Rattle.csv.proofs.RoundTrip.{read-write}
use Rattle.master_rows.specs.Mark.{begins_with_mark, begins_with_two_marks, byte_order_mark}
use Rattle.master_rows.specs.Sheet.{sheet_within, sheet_of, master_records}
use Rattle.master_rows.specs.Master.{IsMasterWithin, IsColumn}
use Rattle.master_rows.specs.declared.master.Master.{Master}
use Rattle.master_rows.proofs.Sheets.{records-end}
use Rattle.master_rows.proofs.Masters.{read_records-master}

-- a text without a mark is read whole
strip_bom-unmarked : (text : List ℕ) → begins_with_mark text ≡ false → strip_bom text ≡ text
unfolding strip_bom
strip_bom-unmarked [] plain = refl
strip_bom-unmarked (a ∷ []) plain = refl
strip_bom-unmarked (a ∷ b ∷ []) plain = refl
strip_bom-unmarked (a ∷ b ∷ c ∷ rest) plain = elim (cases_Bool (is_bom a b c)) [
  | inr other ↦ rw other refl
  | inl mark ↦
      let outer = and_parts _ _ mark in
      let inner = and_parts _ _ outer.0 in
      absurd (let e = rw (eqb-true a 0xEF inner.0, eqb-true b 0xBB inner.1, eqb-true c 0xBF outer.1) at plain in cc)
]

-- what begins with two texts begins with the first
starts_with-first : (first second text : List ℕ) → starts_with nat_eq text (first ++ second) ≡ true
    → starts_with nat_eq text first ≡ true
starts_with-first [] second text h = refl
starts_with-first (x ∷ first) second [] h = absurd cc
starts_with-first (x ∷ first) second (y ∷ text) h =
    let parts = and_parts (x == y) _ h in
    rw parts.0 (starts_with-first first second text parts.1)

-- a text without a mark does not begin with two
two_marks-unmarked : (text : List ℕ) → begins_with_mark text ≡ false → begins_with_two_marks text ≡ false
two_marks-unmarked text plain = elim (cases_Bool (begins_with_two_marks text)) [
  | inl two ↦ absurd (let e = sym (starts_with-first byte_order_mark byte_order_mark text two) ∙ plain in cc)
  | inr other ↦ other
]

-- a test beside one that failed
and-false : (b : Bool) → (b && false) ≡ false
and-false true = refl
and-false false = refl

-- a mark does not reach over a byte that is none of its last two
unmarked-before : (text rest : List ℕ) (separator : ℕ) → 1 ≤ length text → begins_with_mark text ≡ false
    → (0xBB == separator) ≡ false → (0xBF == separator) ≡ false → begins_with_mark (text ++ separator ∷ rest) ≡ false
unmarked-before [] rest separator some plain second third = absurd (omega arith)
unmarked-before (a ∷ []) rest separator some plain second third = rw second (and-false (0xEF == a))
unmarked-before (a ∷ b ∷ []) rest separator some plain second third = rw (third, and-false (0xBB == b))
    (and-false (0xEF == a))
unmarked-before (a ∷ b ∷ c ∷ more) rest separator some plain second third = plain

-- the records that were written are reached in turn
written-reached : (rows : List (List (List ℕ))) → All (λ row. 1 ≤ length row) rows
    → Reached default_config st.StartRecord (flat_map (row_text default_writer) rows) rows st.StartRecord []
unfolding Reached
written-reached [] some = (refl, refl)
written-reached ([] ∷ rows) some = absurd (omega (arith, All-head (λ row. 1 ≤ length row) [] rows some))
written-reached ((field ∷ fields) ∷ rows)
    some = (
      (field ∷ fields, st.StartRecord, flat_map (row_text default_writer) rows),
      read-write (field ∷ fields)
          (flat_map (row_text default_writer) rows),
      refl,
      written-reached rows
          (All-tail (λ row. 1 ≤ length row) (field ∷ fields) rows some),
    )

-- what was written has these records
records-written : (rows : List (List (List ℕ))) → All (λ row. 1 ≤ length row) rows
    → records default_config (flat_map (row_text default_writer) rows) ≡ rows
unfolding next_record
records-written rows some =
    sym (records-end 44 (flat_map (row_text default_writer) rows) [] rows st.StartRecord (written-reached rows some)
    refl)

-- a header that begins with a column as it stands
bare-unmarked : (column : List ℕ) (columns : List (List ℕ)) (rest : List ℕ) → IsColumn column
    → list_any (needs_byte default_writer) column ≡ false
    → begins_with_mark (row_text default_writer (column ∷ columns) ++ rest) ≡ false
unfolding is_blank fields_text
bare-unmarked column [] rest is bare =
    let shown : (length column == 0) ≡ false = ne_eqb (length column) 0 (λ none. absurd (omega (arith, is.some))) in
    let text : row_text default_writer (column ∷ []) ++ rest ≡ column ++ 10 ∷ rest = rw (bare, shown)
    (simp (append-nil, append_assoc)) in
    rw text (unmarked-before column rest 10 is.some is.unmarked refl refl)
bare-unmarked column (next ∷ columns) rest is bare =
    let after = (field_text default_writer next ++ fields_text default_writer columns) ++ 10 ∷ rest in
    let text : row_text default_writer (column ∷ next ∷ columns) ++ rest ≡ column ++ 44 ∷ after = rw bare
    (simp append_assoc) in
    rw text (unmarked-before column after 44 is.some is.unmarked refl refl)

-- a header begins with its first column, or with a quote
row_text-unmarked : (column : List ℕ) (columns : List (List ℕ)) (rest : List ℕ) → IsColumn column
    → begins_with_mark (row_text default_writer (column ∷ columns) ++ rest) ≡ false
row_text-unmarked column columns rest is = elim (cases_Bool (list_any (needs_byte default_writer) column)) [
  | inl needs ↦ rw needs refl
  | inr bare ↦ bare-unmarked column columns rest is bare
]

-- a printed sheet begins with no mark
sheet_of-unmarked : (columns : List (List ℕ)) (rest : List ℕ) → 1 ≤ length columns → All IsColumn columns
    → begins_with_mark (row_text default_writer columns ++ rest) ≡ false
sheet_of-unmarked [] rest headed all = absurd (omega arith)
sheet_of-unmarked (column ∷ columns) rest headed all = row_text-unmarked column columns rest
    (All-head IsColumn column columns all)

-- a printed sheet reads back
pub read_sheet-sheet_of : (most : ℕ) (master : Master) → IsMasterWithin most master
    → sheet_within most (sheet_of master) ≡ Ok master
read_sheet-sheet_of most master is =
    let unmarked = sheet_of-unmarked master.columns (flat_map (row_text default_writer) master.grid.rows) is.headed
    is.columns in
    let some = All-cons (λ row. 1 ≤ length row) master.columns master.grid.rows is.headed
    (λ k d within. omega (arith, (is.rows k d within).full, is.headed)) in
    rw (
      two_marks-unmarked (sheet_of master) unmarked,
      strip_bom-unmarked (sheet_of master) unmarked,
      records-written (master_records master) some,
    ) (read_records-master most master is)

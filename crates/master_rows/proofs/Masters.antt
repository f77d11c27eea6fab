-- The masters that a sheet can give are those whose records have no fault.
use Rattle.std.proofs.Common.{◌≡◌, ◌≢◌, ℕ, zero, suc, ◌+◌, ◌<◌, ◌≤◌, List, [], ◌∷◌, ◌++◌, true}
use Rattle.std.proofs.Common.{false, length, length-append, get_or, refl, sym, ◌∙◌, arith, inl, inr}
use Rattle.std.specs.Prelude.{Option, Some, None, Result, Ok, Err, IfOk, nat_lt, bytes_eq, All, AllPairs}
use Rattle.std.specs.List.{list_all}
use Rattle.std.specs.Str.{is_utf8}
use Rattle.std.proofs.Math.ListN.{get_or-append}
use Rattle.std.proofs.Math.Seq.{get_or-append_seam}
use Rattle.std.proofs.lemmas.Bool.{cases_Bool, and_parts, or_parts, not-true, lt-ltb, le-ltb, ltb-true, ltb-false}
use Rattle.std.proofs.lemmas.Bool.{le-leb, leb-true}
use Rattle.std.proofs.lemmas.Str.{IsUtf8-from_is_utf8, is_utf8-from_IsUtf8}
use Rattle.std.proofs.lemmas.Slice.Eq.{bytes_eq-Decides}
use Rattle.std.proofs.lemmas.List.{append-nil, append_assoc}
use Rattle.std.proofs.lemmas.List.Elements.{All-nil, All-cons, All-head, All-tail}
use Rattle.std.proofs.lemmas.List.Folds.{list_any_none}
use Rattle.std.proofs.lemmas.List.Sums.{list_all-from_AllPass}
use Rattle.std.proofs.lemmas.List.Quantifiers.{all_pairs_push}
use Rattle.desk_base.proofs.Utf8.{bytes_eq-apart}
use Rattle.master_rows.specs.Mark.{begins_with_mark, begins_with_two_marks}
use Rattle.desk_base.proofs.Options.{option_or-None}
use Rattle.desk_base.specs.Places.{has_text}
use Rattle.desk_base.specs.declared.limits.TheConstants.{MAX_COLUMNS}
use Rattle.master_rows.specs.Header.{is_column, columns_fault, header_fault}
use Rattle.master_rows.specs.Row.{cells_fault, rows_fault}
use Rattle.master_rows.specs.Sheet.{sheet_within, sheet_records, records_within, master_records, unless}
use Rattle.master_rows.specs.Master.{IsColumn, IsCell, IsRow, IsMasterWithin}
use Rattle.master_rows.specs.declared.error.SheetFault.{SheetFault}
use Rattle.master_rows.specs.declared.master.Master.{Master}
use Rattle.csv.specs.Reading.{strip_bom}
use Rattle.master_rows.proofs.Sheets.{records-some}
use Rattle.master_rows.proofs.Faults.{row_fault-none, row_fault-cells, cells_fault-next, columns_fault-bad}
use Rattle.master_rows.proofs.Faults.{columns_fault-twice, columns_fault-next, read_records-faultless}

-- the test of a column tells what a column is
IsColumn-passed : (text : List ℕ) → is_utf8 text ≡ true → is_column text ≡ true → IsColumn text
IsColumn-passed text utf8 passed =
    let parts = and_parts _ _ passed in
    let first = and_parts _ _ parts.0 in
    record {
      utf8 = IsUtf8-from_is_utf8 text utf8;
      some = ltb-true 0 (length text) first.0;
      short = leb-true
          (length text) 64 first.1;
      unmarked = not-true (begins_with_mark text) parts.1;
    }

-- and is passed by each
is_column-IsColumn : (text : List ℕ) → IsColumn text → is_column text ≡ true
is_column-IsColumn text column =
    rw (lt-ltb 0 (length text) column.some, le-leb (length text) 64 column.short, column.unmarked) refl

-- texts whose test fails differ
bytes_eq-refused : (one other : List ℕ) → bytes_eq one other ≡ false → other ≢ one
bytes_eq-refused one other new same = let passed = (bytes_eq-Decides one other).1 (sym same) in absurd
    (let e = sym passed ∙ new in cc)

-- a text that none of the others equals does not stand among them
has_text-none : (earlier : List (List ℕ)) (column : List ℕ)
    → ((k : ℕ) (d : List ℕ) → k < length earlier → get_or earlier k d ≢ column) → has_text earlier column ≡ false
has_text-none earlier column differs = list_any_none (bytes_eq column) earlier
    (λ k d within. bytes_eq-apart column (get_or earlier k d) (λ same. differs k d within (sym same)))

-- and differs from each, where it does not
has_text-differs : (earlier : List (List ℕ)) (column : List ℕ) → has_text earlier column ≡ false
    → (k : ℕ) (d : List ℕ) → k < length earlier → get_or earlier k d ≢ column
has_text-differs [] column new k d within = absurd (omega arith)
has_text-differs (text ∷ earlier) column new zero d within = bytes_eq-refused column text (or_parts _ _ new).0
has_text-differs (text ∷ earlier) column new (suc k) d within = has_text-differs earlier column (or_parts _ _ new).1 k
    d (omega arith)

-- columns without a fault are columns that differ
columns_fault-none : (earlier later : List (List ℕ)) → columns_fault earlier later ≡ None
    → list_all is_utf8 later ≡ true → AllPairs (λ one other. one ≢ other) earlier
    → All IsColumn later × AllPairs (λ one other. one ≢ other) (earlier ++ later)
columns_fault-none earlier [] none utf8 differ = (All-nil IsColumn, rw append-nil differ)
columns_fault-none earlier (column ∷ later) none utf8 differ = elim (cases_Bool (is_column column)) [
  | inr bad ↦ absurd (let e = sym (columns_fault-bad earlier later column bad) ∙ none in cc)
  | inl good ↦ elim (cases_Bool (has_text earlier column)) [
    | inl twice ↦ absurd (let e = sym (columns_fault-twice earlier later column good twice) ∙ none in cc)
    | inr new ↦
        let texts = and_parts _ _ utf8 in
        let grown = all_pairs_push (λ one other. one ≢ other) earlier column differ
        (has_text-differs earlier column new) in
        let rest = columns_fault-none (earlier ++ column ∷ []) later
        (sym (columns_fault-next earlier later column good new) ∙ none) texts.1 grown in
        (All-cons IsColumn column later (IsColumn-passed column texts.0 good) rest.0, rw append_assoc at rest.1)
  ]
]

-- columns that differ have no fault
columns_fault-differ : (earlier later : List (List ℕ)) → All IsColumn later
    → AllPairs (λ one other. one ≢ other) (earlier ++ later) → columns_fault earlier later ≡ None
columns_fault-differ earlier [] columns differ = refl
columns_fault-differ earlier (column ∷ later) columns differ =
    let good = is_column-IsColumn column (All-head IsColumn column later columns) in
    let new = has_text-none earlier column (λ k d within.
    let inside : length earlier < length (earlier ++ column ∷ later) =
    omega (arith, length-append earlier (column ∷ later)) in
    rw (get_or-append earlier (column ∷ later) d k within, get_or-append_seam earlier column later d) at
    (differ k (length earlier) d within inside)) in
    columns_fault-next earlier later column good new
    ∙ columns_fault-differ (earlier ++ column ∷ []) later (All-tail IsColumn column later columns)
    (rw append_assoc differ)

-- cells without a fault are short
cells_fault-none : (row column : ℕ) (cells : List (List ℕ)) → cells_fault row column cells ≡ None
    → list_all is_utf8 cells ≡ true → All IsCell cells
cells_fault-none row column [] none utf8 = All-nil IsCell
cells_fault-none row column (cell ∷ later) none utf8 = elim (cases_Bool (nat_lt 200 (length cell))) [
  | inl long ↦ absurd (let e = rw long at none in cc)
  | inr short ↦
      let texts = and_parts _ _ utf8 in
      All-cons IsCell cell later
      (record { utf8 = IsUtf8-from_is_utf8 cell texts.0; short = ltb-false 200 (length cell) short })
      (cells_fault-none row (column + 1) later (rw short at none) texts.1)
]

-- short cells have no fault
cells_fault-short : (row column : ℕ) (cells : List (List ℕ)) → All IsCell cells → cells_fault row column cells ≡ None
cells_fault-short row column [] cells = refl
cells_fault-short row column (cell ∷ later) cells = cells_fault-next row column cell later
    (All-head IsCell cell later cells).short
    ∙ cells_fault-short row (column + 1) later (All-tail IsCell cell later cells)

-- rows without a fault are rows, and not too many
rows_fault-none : (most : ℕ) (columns row : ℕ) (rows : List (List (List ℕ))) → row ≤ most + 1
    → rows_fault most columns row rows ≡ None
    → All (IsRow columns) rows × (row + length rows ≤ most + 1)
rows_fault-none most columns row [] within none = (All-nil (IsRow columns), omega arith)
rows_fault-none most columns row (cells ∷ later) within none =
    let parts = option_or-None _ _ none in
    let fine = row_fault-none most columns row cells parts.0 in
    let rest = rows_fault-none most columns (row + 1) later (omega (arith, fine.within)) parts.1 in (
      All-cons (IsRow columns) cells later
          (record { full = fine.full; cells = cells_fault-none row 1 cells fine.short fine.texts }) rest.0,
      omega (arith, rest.1),
    )

-- rows have no fault
rows_fault-rows : (most : ℕ) (columns row : ℕ) (rows : List (List (List ℕ))) → All (IsRow columns) rows
    → row + length rows ≤ most + 1 → rows_fault most columns row rows ≡ None
rows_fault-rows most columns row [] all few = refl
rows_fault-rows most columns row (cells ∷ later) all few =
    let here = All-head (IsRow columns) cells later all in
    let texts = list_all-from_AllPass is_utf8 cells
    (λ k d within. is_utf8-from_IsUtf8 _ (here.cells k d within).utf8) in
    let none = row_fault-cells most columns row cells (omega arith) here.full texts
    ∙ cells_fault-short row 1 cells here.cells in
    rw none (rows_fault-rows most columns (row + 1) later (All-tail (IsRow columns) cells later all) (omega arith))

-- a header of columns that differ has no fault
header_fault-differ : (header : List (List ℕ)) → length header ≤ 48 → All IsColumn header
    → AllPairs (λ one other. one ≢ other) header → header_fault header ≡ None
header_fault-differ header narrow columns differ =
    let texts = list_all-from_AllPass is_utf8 header
    (λ k d within. is_utf8-from_IsUtf8 (get_or header k d) (columns k d within).utf8) in
    rw (texts, le-ltb 48 (length header) narrow) (columns_fault-differ [] header columns differ)

-- a header of columns that differ
record IsHeader (header : List (List ℕ)) : Type 0 where
  narrow : length header ≤ MAX_COLUMNS
  columns : All IsColumn header
  distinct : AllPairs (λ one other. one ≢ other) header

-- a header without a fault is one
header_fault-none : (header : List (List ℕ)) → header_fault header ≡ None → IsHeader header
header_fault-none header none = elim (cases_Bool (list_all is_utf8 header)) [
  | inr bytes ↦ absurd (let e = rw bytes at none in cc)
  | inl texts ↦ elim (cases_Bool (nat_lt MAX_COLUMNS (length header))) [
    | inl wide ↦ absurd (let e = rw (texts, wide) at none in cc)
    | inr narrow ↦
        let columns = columns_fault-none [] header (rw (texts, narrow) at none) texts
        (λ i j d below within. absurd (omega arith)) in
        record { narrow = ltb-false MAX_COLUMNS (length header) narrow; columns = columns.0; distinct = columns.1 }
  ]
]

-- the records of a master are read as it
pub read_records-master : (most : ℕ) (master : Master) → IsMasterWithin most master
    → records_within most (master_records master) ≡ Ok master
read_records-master most master is = read_records-faultless most master.columns master.grid (record {
  header = header_fault-differ master.columns is.narrow is.columns is.distinct;
  rows = rows_fault-rows most (length master.columns) 1 master.grid.rows is.rows (omega (arith, is.few));
  width = is.width;
})

-- what is given has no fault
unless-ok : (fault : Option SheetFault) (made master : Master) → unless fault made ≡ Ok master
    → (fault ≡ None) × (made ≡ master)
unless-ok None made master h = (refl, cc)
unless-ok (Some fault) made master h = absurd cc

-- what records are read as is a master
pub IsMaster-read_records : (most : ℕ) (rows : List (List (List ℕ))) (master : Master)
    → All (λ row. 1 ≤ length row) rows
    → records_within most rows ≡ Ok master → IsMasterWithin most master
IsMaster-read_records most [] master some h = absurd cc
IsMaster-read_records most (header ∷ rows) master some h =
    let given = unless-ok _ _ _ h in
    let parts = option_or-None _ _ given.0 in
    let columns = header_fault-none header parts.0 in
    let under = rows_fault-none most (length header) 1 rows (omega arith) parts.1 in
    rw (← given.1)
    (record {
      headed = All-head (λ row. 1 ≤ length row) header rows some;
      narrow = columns.narrow;
      columns = columns.columns;
      distinct = columns.distinct;
      width = refl;
      few = omega (arith, under.1);
      rows = under.0;
    })

-- what a sheet is read as is a master
pub IsMaster-read_sheet : (most : ℕ) (sheet : List ℕ) (master : Master) → sheet_within most sheet ≡ Ok master
    → IsMasterWithin most master
IsMaster-read_sheet most sheet master h = elim (cases_Bool (begins_with_two_marks sheet)) [
  | inl marked ↦ absurd (let e = rw marked at h in cc)
  | inr plain ↦ IsMaster-read_records most (sheet_records sheet) master (records-some 44 (strip_bom sheet))
      (rw plain at h)
]

-- a fact of the value that is given, if there is one
pub IfOk-given : (P : Master → Type 0) (given : Result Master SheetFault)
    → ((master : Master) → given ≡ Ok master → P master) → IfOk given P
IfOk-given P (Ok master) each = each master refl
IfOk-given P (Err fault) each = tt

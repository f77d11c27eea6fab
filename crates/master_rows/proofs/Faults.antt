-- The first fault of a header and of rows, step by step.
use Rattle.std.proofs.Common.{◌≡◌, ℕ, ◌+◌, ◌<◌, ◌≤◌, ◌==◌, List, [], ◌∷◌, ◌++◌, true, false, length, refl, ap, ◌∙◌}
use Rattle.std.proofs.Common.{arith, inl, inr}
use Rattle.std.specs.Prelude.{Option, Some, None, Ok, Err, nat_lt, is_none}
use Rattle.std.specs.List.{list_all}
use Rattle.std.specs.Str.{is_utf8}
use Rattle.std.proofs.lemmas.Bool.{cases_Bool, lt-ltb, le-ltb, ltb-false, eq-eqb, eqb-true}
use Rattle.std.specs.Option.{option_or}
use Rattle.desk_base.proofs.Options.{option_or-None}
use Rattle.desk_base.specs.Grid.{GridRows}
use Rattle.desk_base.specs.Places.{has_text}
use Rattle.master_rows.specs.Header.{is_column, columns_fault, header_fault}
use Rattle.master_rows.specs.Row.{cells_fault, row_fault, rows_fault}
use Rattle.master_rows.specs.Sheet.{records_within}
use Rattle.master_rows.specs.Draft.{IsFaultless, HasNoFault, records_taken}
use Rattle.master_rows.specs.declared.error.SheetFault.{SheetFault}
use Rattle.master_rows.specs.declared.error.SheetFault.TheVariants.{BadColumn, ColumnTwice, CellLong}

-- a text that may not stand as a column
pub columns_fault-bad : (earlier later : List (List ℕ)) (column : List ℕ) → is_column column ≡ false
    → columns_fault earlier (column ∷ later) ≡ Some (BadColumn (length earlier + 1))
columns_fault-bad earlier later column bad = rw bad refl

-- a column that stands among the earlier ones
pub columns_fault-twice : (earlier later : List (List ℕ)) (column : List ℕ) → is_column column ≡ true
    → has_text earlier column ≡ true → columns_fault earlier (column ∷ later) ≡ Some (ColumnTwice (length earlier + 1))
columns_fault-twice earlier later column good twice = rw (good, twice) refl

-- another column
pub columns_fault-next : (earlier later : List (List ℕ)) (column : List ℕ) → is_column column ≡ true
    → has_text earlier column ≡ false
    → columns_fault earlier (column ∷ later) ≡ columns_fault (earlier ++ column ∷ []) later
columns_fault-next earlier later column good new = rw (good, new) refl

-- a cell that is too long
pub cells_fault-long : (row column : ℕ) (cell : List ℕ) (later : List (List ℕ)) → 200 < length cell
    → cells_fault row column (cell ∷ later) ≡ Some (CellLong row column)
cells_fault-long row column cell later long = rw (lt-ltb 200 (length cell) long) refl

-- a cell that is not
pub cells_fault-next : (row column : ℕ) (cell : List ℕ) (later : List (List ℕ)) → length cell ≤ 200
    → cells_fault row column (cell ∷ later) ≡ cells_fault row (column + 1) later
cells_fault-next row column cell later short = rw (le-ltb 200 (length cell) short) refl

-- a row whose cells alone are left to test
pub row_fault-cells : (most : ℕ) (columns row : ℕ) (cells : List (List ℕ)) → row ≤ most → length cells ≡ columns
    → list_all is_utf8 cells ≡ true → row_fault most columns row cells ≡ cells_fault row 1 cells
row_fault-cells most columns row cells within full texts =
    rw (le-ltb most row within, eq-eqb (length cells) columns full, texts) refl

-- what a row without a fault is
pub record IsFine (most columns row : ℕ) (cells : List (List ℕ)) : Type 0 where
  pub within : row ≤ most
  pub full : length cells ≡ columns
  pub texts : list_all is_utf8 cells ≡ true
  pub short : cells_fault row 1 cells ≡ None

-- a row without a fault has passed each test
pub row_fault-none : (most : ℕ) (columns row : ℕ) (cells : List (List ℕ)) → row_fault most columns row cells ≡ None
    → IsFine most columns row cells
row_fault-none most columns row cells none = elim (cases_Bool (nat_lt most row)) [
  | inl past ↦ absurd (let e = rw past at none in cc)
  | inr within ↦ elim (cases_Bool (length cells == columns)) [
    | inr other ↦ absurd (let e = rw (within, other) at none in cc)
    | inl full ↦ elim (cases_Bool (list_all is_utf8 cells)) [
      | inr bytes ↦ absurd (let e = rw (within, full, bytes) at none in cc)
      | inl texts ↦ record {
        within = ltb-false most row within;
        full = eqb-true (length cells) columns full;
        texts = texts;
        short = rw (within, full, texts) at none;
      }
    ]
  ]
]

-- after rows without a fault, the first fault is that of the rows that follow
pub rows_fault-append : (most : ℕ) (columns row : ℕ) (rows later : List (List (List ℕ)))
    → rows_fault most columns row rows ≡ None
    → rows_fault most columns row (rows ++ later) ≡ rows_fault most columns (row + length rows) later
rows_fault-append most columns row [] later none = ap (λ n. rows_fault most columns n later) (omega arith)
rows_fault-append most columns row (cells ∷ rows) later none =
    let both = option_or-None (row_fault most columns row cells) (rows_fault most columns (row + 1) rows) none in
    let place : row + 1 + length rows ≡ row + length (cells ∷ rows) = omega arith in
    rw both.0 (rows_fault-append most columns (row + 1) rows later both.1
    ∙ ap (λ n. rows_fault most columns n later) place)

-- a header with a fault is refused, whatever stands under it
pub read_records-header : (most : ℕ) (header : List (List ℕ)) (later : List (List (List ℕ))) (fault : SheetFault)
    → header_fault header ≡ Some fault → records_within most (header ∷ later) ≡ Err fault
read_records-header most header later fault is = rw is refl

-- after a draft without a fault, the first fault is that of the next row
rows_fault-next : (most : ℕ) (columns : List (List ℕ)) (grid : GridRows) (cells : List (List ℕ))
    (later : List (List (List ℕ)))
    → IsFaultless most columns grid
    → rows_fault most (length columns) 1 (grid.rows ++ cells ∷ later) ≡ option_or
    (row_fault most grid.columns (length grid.rows + 1) cells)
    (rows_fault most (length columns) (length grid.rows + 1 + 1) later)
rows_fault-next most columns grid cells later fine =
    let place : 1 + length grid.rows ≡ length grid.rows + 1 = omega arith in
    rw fine.width
    (rows_fault-append most (length columns) 1 grid.rows (cells ∷ later) fine.rows
    ∙ ap (λ n. rows_fault most (length columns) n (cells ∷ later)) place)

-- a row with a fault is refused, whatever stands after it
pub read_records-row : (most : ℕ) (columns : List (List ℕ)) (grid : GridRows) (cells : List (List ℕ))
    (later : List (List (List ℕ))) (fault : SheetFault) → IsFaultless most columns grid
    → row_fault most grid.columns (length grid.rows + 1) cells ≡ Some fault
    → records_within most (columns ∷ (grid.rows ++ cells ∷ later)) ≡ Err fault
read_records-row most columns grid cells later fault fine is =
    rw (fine.header, rows_fault-next most columns grid cells later fine, is) refl

-- a header and rows without a fault are read
pub read_records-faultless : (most : ℕ) (columns : List (List ℕ)) (grid : GridRows) → IsFaultless most columns grid
    → records_within most (columns ∷ grid.rows) ≡ Ok (record { columns = columns; grid = grid })
read_records-faultless most columns grid fine = rw (fine.header, fine.rows, ← fine.width) refl

-- a further row without a fault
pub IsFaultless-row : (most : ℕ) (columns : List (List ℕ)) (grid : GridRows) (cells : List (List ℕ))
    → IsFaultless most columns grid
    → row_fault most grid.columns (length grid.rows + 1) cells ≡ None
    → IsFaultless most columns (record grid { rows = grid.rows ++ cells ∷ [] })
IsFaultless-row most columns grid cells fine none = record
    { header = fine.header; rows = rows_fault-next most columns grid cells [] fine ∙ rw none refl; width = fine.width }

-- the same of a draft that has its header
pub read_records-taken : (most : ℕ) (columns : Option (List (List ℕ))) (grid : GridRows) (cells : List (List ℕ))
    (later : List (List (List ℕ))) (fault : SheetFault) → is_none columns ≡ false → HasNoFault most columns grid
    → row_fault most grid.columns (length grid.rows + 1) cells ≡ Some fault
    → records_within most (records_taken columns grid ++ cells ∷ later) ≡ Err fault
read_records-taken most None grid cells later fault begun fine is = absurd cc
read_records-taken most (Some columns) grid cells later fault begun fine is =
    read_records-row most columns grid cells later fault fine is

-- and stays without a fault by one that has none
pub HasNoFault-row : (most : ℕ) (columns : Option (List (List ℕ))) (grid : GridRows) (cells : List (List ℕ))
    → is_none columns ≡ false → HasNoFault most columns grid
    → row_fault most grid.columns (length grid.rows + 1) cells ≡ None
    → HasNoFault most columns (record grid { rows = grid.rows ++ cells ∷ [] })
HasNoFault-row most None grid cells begun fine none = absurd cc
HasNoFault-row most (Some columns) grid cells begun fine none = IsFaultless-row most columns grid cells fine none

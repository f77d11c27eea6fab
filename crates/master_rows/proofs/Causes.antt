-- Each refusal of a sheet has its cause.
use Rattle.std.proofs.Common.{◌≡◌, ◌⊎◌, ◌∙◌, ℕ, suc, ◌+◌, ◌<◌, ◌==◌, nat_lt, List, [], ◌∷◌}
use Rattle.std.proofs.Common.{refl, sym, ap, subst, arith, inl, inr, Option, Some, None, Err, append_assoc}
use Rattle.std.proofs.Common.{◌++◌, length, length-append}
use Rattle.std.specs.Prelude.{slice_get}
use Rattle.std.specs.List.{list_all}
use Rattle.std.specs.Option.{option_or}
use Rattle.std.specs.Str.{bytes_eq, is_utf8}
use Rattle.std.proofs.lemmas.Bool.{cases_Bool, eq-eqb, ltb-true}
use Rattle.std.proofs.lemmas.List.Folds.{Any-from_list_any}
use Rattle.std.proofs.lemmas.Option.{slice_get_read}
use Rattle.std.proofs.lemmas.Slice.Eq.{bytes_eq-Decides}
use Rattle.desk_base.proofs.Lists.{slice_get-after, slice_get-front}
use Rattle.desk_base.specs.Places.{has_text}
use Rattle.master_rows.specs.declared.error.SheetFault.{SheetFault}
use Rattle.master_rows.specs.declared.error.SheetFault.TheVariants.{NotUtf8, NoHeader, BadColumn, ColumnTwice, Ragged}
use Rattle.master_rows.specs.declared.error.SheetFault.TheVariants.{CellLong, TooManyRows, TooManyColumns}
use Rattle.master_rows.specs.declared.master.Master.{Master}
use Rattle.master_rows.specs.Causes.{HasCauseWithin, IsOf}
use Rattle.master_rows.specs.Header.{is_column, columns_fault, header_fault}
use Rattle.master_rows.specs.Mark.{begins_with_two_marks}
use Rattle.master_rows.specs.Row.{cells_fault, row_fault, rows_fault}
use Rattle.master_rows.specs.Sheet.{records_within, sheet_within, sheet_records, unless}

-- the first of two faults, or the second
option_or-Some : (first later : Option SheetFault) (fault : SheetFault) → option_or first later ≡ Some fault
    → (first ≡ Some fault) ⊎ (later ≡ Some fault)
option_or-Some None later fault is = inr is
option_or-Some (Some one) later fault is = inl is

-- the fault where there is one
unless-fault : (first : Option SheetFault) (master : Master) (fault : SheetFault) → unless first master ≡ Err fault
    → first ≡ Some fault
unless-fault None master fault is = absurd cc
unless-fault (Some one) master fault is = cc

module _ (most : ℕ) (header : List (List ℕ)) (rows : List (List (List ℕ))) where
  -- a fault of the columns after earlier ones
  columns_fault-cause : (earlier later : List (List ℕ)) → earlier ++ later ≡ header → (fault : SheetFault)
      → columns_fault earlier later ≡ Some fault → IsOf most (header ∷ rows) fault
  columns_fault-cause earlier [] joined fault is = absurd cc
  columns_fault-cause earlier (column ∷ later) joined fault is =
      let here : slice_get header (length earlier) ≡ Some column =
      ap (λ list. slice_get list (length earlier)) (sym joined) ∙ slice_get-after earlier later column in
      elim (cases_Bool (is_column column)) [
        | inr other ↦
            let bad = rw other at is in
            let named : BadColumn (length earlier + 1) ≡ fault = cc in
            subst (IsOf most (header ∷ rows)) named (record {
              header = header;
              first = refl;
              place = length earlier;
              counted = refl;
              bad = rw here other;
            })
        | inl good ↦ elim (cases_Bool (has_text earlier column)) [
          | inl among ↦
              let twice = rw (good, among) at is in
              let named : ColumnTwice (length earlier + 1) ≡ fault = cc in
              let (place, other, within, there, same) = Any-from_list_any (bytes_eq column) earlier among in
              let first : slice_get earlier place ≡ Some other =
              slice_get_read earlier (length earlier) place other refl within (sym there) in
              let equal : column ≡ other = (bytes_eq-Decides column other).0 same in
              subst (IsOf most (header ∷ rows)) named (record {
                header = header;
                first = refl;
                earlier = place;
                place = length earlier;
                counted = refl;
                before = within;
                column = column;
                one = ap (λ list. slice_get list place) (sym joined)
                    ∙ slice_get-front earlier (column ∷ later) place other first ∙ ap Some (sym equal);
                other = here;
              })
          | inr apart ↦
              let next = rw (good, apart) at is in
              columns_fault-cause (earlier ++ column ∷ []) later (append_assoc earlier (column ∷ []) later ∙ joined)
              fault next
        ]
      ]

  -- a fault of the header
  header_fault-cause : (fault : SheetFault) → header_fault header ≡ Some fault → IsOf most (header ∷ rows) fault
  header_fault-cause fault is =
      elim (cases_Bool (list_all is_utf8 header)) [
        | inr other ↦
            let bad = rw other at is in
            let named : NotUtf8 0 ≡ fault = cc in
            subst (IsOf most (header ∷ rows)) named other
        | inl texts ↦ elim (cases_Bool (nat_lt 48 (length header))) [
          | inl many ↦
              let bad = rw (texts, many) at is in
              let named : TooManyColumns ≡ fault = cc in
              subst (IsOf most (header ∷ rows)) named (ltb-true 48 (length header) many)
          | inr few ↦ columns_fault-cause [] header refl fault (rw (texts, few) at is)
        ]
      ]

  module _ (row : ℕ) (cells : List (List ℕ)) (stands : slice_get (header ∷ rows) row ≡ Some cells) where
    -- a fault of the cells after earlier ones
    cells_fault-cause : (earlier later : List (List ℕ)) → earlier ++ later ≡ cells → (column : ℕ)
        → column ≡ length earlier + 1 → (fault : SheetFault) → cells_fault row column later ≡ Some fault
        → IsOf most (header ∷ rows) fault
    cells_fault-cause earlier [] joined column counted fault is = absurd cc
    cells_fault-cause earlier (cell ∷ later) joined column counted fault is =
        elim (cases_Bool (nat_lt 200 (length cell))) [
          | inl long ↦
              let here : slice_get cells (length earlier) ≡ Some cell =
              ap (λ list. slice_get list (length earlier)) (sym joined) ∙ slice_get-after earlier later cell in
              let bad = rw long at is in
              let named : CellLong row column ≡ fault = cc in
              subst (IsOf most (header ∷ rows)) named (record {
                cells = cells;
                stands = stands;
                place = length earlier;
                counted = counted;
                bad = rw here (ltb-true 200 (length cell) long);
              })
          | inr short ↦
              let size = length-append earlier (cell ∷ []) in
              cells_fault-cause (earlier ++ cell ∷ []) later (append_assoc earlier (cell ∷ []) later ∙ joined)
              (column + 1) (omega (arith, counted, size)) fault (rw short at is)
        ]

    -- a fault of a row
    row_fault-cause : row < length (header ∷ rows) → (fault : SheetFault)
        → row_fault most (length header) row cells ≡ Some fault → IsOf most (header ∷ rows) fault
    row_fault-cause within fault is =
        elim (cases_Bool (nat_lt most row)) [
          | inl past ↦
              let bad = rw past at is in
              let named : TooManyRows ≡ fault = cc in
              let past_most : most < row = ltb-true most row past in
              let many : most + 1 < length (header ∷ rows) = omega arith in
              subst (IsOf most (header ∷ rows)) named many
          | inr few ↦ elim (cases_Bool (length cells == length header)) [
            | inr other ↦
                let bad = rw (few, other) at is in
                let named : Ragged row ≡ fault = cc in
                subst (IsOf most (header ∷ rows)) named (record {
                  header = header;
                  first = refl;
                  cells = cells;
                  stands = stands;
                  bad = λ same. let equal = eq-eqb (length cells) (length header) same in cc;
                })
            | inl full ↦ elim (cases_Bool (list_all is_utf8 cells)) [
              | inr other ↦
                  let bad = rw (few, full, other) at is in
                  let named : NotUtf8 row ≡ fault = cc in
                  subst (IsOf most (header ∷ rows)) named (rw stands other)
              | inl texts ↦ cells_fault-cause [] cells refl 1 refl fault (rw (few, full, texts) at is)
            ]
          ]
        ]

  -- a fault of the rows after earlier ones
  rows_fault-cause : (earlier later : List (List (List ℕ))) → earlier ++ later ≡ rows → (row : ℕ)
      → row ≡ suc (length earlier) → (fault : SheetFault) → rows_fault most (length header) row later ≡ Some fault
      → IsOf most (header ∷ rows) fault
  rows_fault-cause earlier [] joined row counted fault is = absurd cc
  rows_fault-cause earlier (cells ∷ later) joined row counted fault is =
      let here : slice_get rows (length earlier) ≡ Some cells =
      ap (λ list. slice_get list (length earlier)) (sym joined) ∙ slice_get-after earlier later cells in
      let stands : slice_get (header ∷ rows) row ≡ Some cells = rw counted here in
      let size : length rows ≡ length earlier + length (cells ∷ later) =
      ap length (sym joined) ∙ length-append earlier (cells ∷ later) in
      let next_fault = rows_fault most (length header) (row + 1) later in
      elim (option_or-Some (row_fault most (length header) row cells) next_fault fault is) [
        | inl first ↦ row_fault-cause row cells stands (omega (arith, counted, size)) fault first
        | inr next ↦
            let one = length-append earlier (cells ∷ []) in
            rows_fault-cause (earlier ++ cells ∷ []) later (append_assoc earlier (cells ∷ []) later ∙ joined) (row + 1)
            (omega (arith, counted, one)) fault next
      ]

-- a fault of records
records-cause : (most : ℕ) (records : List (List (List ℕ))) (fault : SheetFault)
    → records_within most records ≡ Err fault
    → IsOf most records fault
records-cause most [] fault is =
    let named : NoHeader ≡ fault = cc in subst (IsOf most []) named refl
records-cause most (header ∷ rows) fault is =
    elim (option_or-Some (header_fault header) (rows_fault most (length header) 1 rows) fault
    (unless-fault (option_or (header_fault header) (rows_fault most (length header) 1 rows))
    (record { columns = header; grid = record { columns = length header; rows = rows } }) fault is)) [
      | inl first ↦ header_fault-cause most header rows fault first
      | inr next ↦ rows_fault-cause most header rows [] rows refl 1 refl fault next
    ]

-- a fault of a sheet
pub read_sheet-cause : (most : ℕ) (sheet : List ℕ) (fault : SheetFault) → sheet_within most sheet ≡ Err fault
    → HasCauseWithin most sheet fault
read_sheet-cause most sheet fault is =
    elim (cases_Bool (begins_with_two_marks sheet)) [
      | inl marked ↦
          let bad = rw marked at is in
          let named : fault ≡ BadColumn 1 = cc in
          inl (marked, named)
      | inr plain ↦ inr (records-cause most (sheet_records sheet) fault (rw plain at is))
    ]

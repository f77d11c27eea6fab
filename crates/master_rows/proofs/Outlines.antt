-- The outline of the records that were taken, record by record.
use Rattle.std.proofs.Common.{◌≡◌, ℕ, ◌+◌, ◌∙◌, List, [], ◌∷◌, ◌++◌, length, length-append, refl, sym, ap}
use Rattle.std.specs.Prelude.{Some, None, Result, Ok, Err}
use Rattle.desk_base.specs.declared.limits.TheConstants.{MAX_ROWS}
use Rattle.master_rows.specs.Draft.{AreOutlined}
use Rattle.master_rows.specs.Header.{header_fault}
use Rattle.master_rows.specs.Outline.{outline_of, outline_read}
use Rattle.master_rows.specs.Row.{row_fault}
use Rattle.master_rows.specs.Sheet.{read_records}
use Rattle.master_rows.specs.declared.error.SheetFault.{SheetFault}
use Rattle.master_rows.specs.declared.master.Master.{Master}
use Rattle.master_rows.specs.declared.outline.Outline.{Outline}
use Rattle.master_rows.proofs.Faults.{IsFaultless-row, read_records-header, read_records-row}

-- the first record, which has no fault as a header
pub AreOutlined-header : (columns header : List (List ℕ)) (count : ℕ) (taken : List (List (List ℕ)))
    → columns ≡ header → header_fault columns ≡ None → AreOutlined None count taken
    → AreOutlined (Some columns) count (taken ++ header ∷ [])
AreOutlined-header columns header count taken is none before = record {
  rows = [];
  records = rw (before.0, is) refl;
  counted = sym before.1;
  faultless = record { header = none; rows = refl; width = refl };
}

-- one that has a fault is refused, whatever stands after it
pub AreOutlined-no_header : (header : List (List ℕ)) (count : ℕ) (taken later : List (List (List ℕ)))
    (fault : SheetFault) → header_fault header ≡ Some fault → AreOutlined None count taken
    → read_records (taken ++ header ∷ later) ≡ Err fault
AreOutlined-no_header header count taken later fault is before =
    rw before.0 (read_records-header MAX_ROWS header later fault is)

-- a further row without a fault
pub AreOutlined-row : (columns cells : List (List ℕ)) (count : ℕ) (taken : List (List (List ℕ)))
    → row_fault MAX_ROWS (length columns) (count + 1) cells ≡ None → AreOutlined (Some columns) count taken
    → AreOutlined (Some columns) (count + 1) (taken ++ cells ∷ [])
AreOutlined-row columns cells count taken none before = record {
  rows = before.rows ++ cells ∷ [];
  records = rw before.records refl;
  counted = length-append before.rows (cells ∷ []) ∙ ap (λ n. n + 1) before.counted;
  faultless = IsFaultless-row MAX_ROWS columns
      (record { columns = length columns; rows = before.rows }) cells before.faultless
      (rw before.counted none);
}

-- one that has a fault is refused, whatever stands after it
pub AreOutlined-no_row : (columns cells : List (List ℕ)) (count : ℕ) (taken later : List (List (List ℕ)))
    (fault : SheetFault) → row_fault MAX_ROWS (length columns) (count + 1) cells ≡ Some fault
    → AreOutlined (Some columns) count taken → read_records (taken ++ cells ∷ later) ≡ Err fault
AreOutlined-no_row columns cells count taken later fault is before =
    rw before.records (read_records-row MAX_ROWS columns
    (record { columns = length columns; rows = before.rows }) cells later
    fault before.faultless (rw before.counted is))

-- what was outlined was read
pub outlined-master : (given : Result Master SheetFault) (outline : Outline) → outline_read given ≡ Ok outline
    → (master : Master) × (given ≡ Ok master) × (outline_of master ≡ outline)
outlined-master (Ok master) outline is = (master, refl, cc)
outlined-master (Err fault) outline is = absurd cc

-- and a fault of it is the fault there
pub outlined-fault : (given : Result Master SheetFault) (fault : SheetFault) → outline_read given ≡ Err fault
    → given ≡ Err fault
outlined-fault (Ok master) fault is = absurd cc
outlined-fault (Err other) fault is = cc

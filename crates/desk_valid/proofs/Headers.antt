-- The header of a master is told by its outline.
use Rattle.std.proofs.Common.{◌≡◌, ◌≤◌, ◌∙◌, List, [], ℕ, ap, length, refl, sym}
use Rattle.std.specs.Prelude.{Some, None, Result, Ok, Err, option_map}
use Rattle.desk_base.specs.declared.limits.TheConstants.{MAX_COLUMNS}
use Rattle.desk_words.specs.declared.rows.text.TextRow.{TextRow}
use Rattle.master_rows.specs.Outline.{outline_of, read_outline}
use Rattle.master_rows.specs.Sheet.{read_sheet}
use Rattle.master_rows.specs.declared.error.SheetFault.{SheetFault}
use Rattle.master_rows.specs.declared.master.Master.{Master}
use Rattle.master_rows.specs.declared.outline.Outline.{Outline}
use Rattle.master_rows.proofs.Masters.{IsMaster-read_sheet}
use Rattle.master_rows.proofs.Outlines.{outlined-fault, outlined-master}
use Rattle.desk_valid.specs.ReadTables.{header_in, header_of, header_over}
use Rattle.desk_valid.specs.Readings.{read}
use Rattle.desk_valid.specs.declared.reading.Header.{Header}

-- an outline has as many columns as a master may have
pub narrow-outline : (body : List ℕ) (outline : Outline) → read_outline body ≡ Ok outline
    → length outline.columns ≤ MAX_COLUMNS
narrow-outline body outline is =
    let (master, reads, outlined) = outlined-master (read_sheet body) outline is in
    let sound = IsMaster-read_sheet _ body master reads in
    rw (ap (λ (one : Outline). length one.columns) outlined) at sound.narrow

-- the header that is told by the outline of a master is the master's
header_over-outline : (master : Master) → master.grid.columns ≡ length master.columns
    → header_over (outline_of master) ≡ header_of master
header_over-outline master width = ap (λ (columns : ℕ). let header : Header = record {
  bare = record { columns = master.columns; grid = record { columns = columns; rows = [] } };
  rows = length master.grid.rows;
} in header) (sym width)

-- and is the header of the row
pub header_in-outline : (row : TextRow) (outline : Outline) → read_outline row.body ≡ Ok outline
    → Some (header_over outline) ≡ header_in row
header_in-outline row outline is =
    let (master, reads, outlined) = outlined-master (read_sheet row.body) outline is in
    let sound = IsMaster-read_sheet _ row.body master reads in
    ap (λ (one : Outline). Some (header_over one)) (sym outlined)
    ∙ ap (λ (one : Header). Some one) (header_over-outline master sound.width)
    ∙ ap (λ (given : Result Master SheetFault). option_map header_of (read given)) (sym reads)

-- a body without an outline has no header
pub header_in-fault : (row : TextRow) (fault : SheetFault) → read_outline row.body ≡ Err fault
    → None ≡ header_in row
header_in-fault row fault is = rw (outlined-fault (read_sheet row.body) fault is) refl

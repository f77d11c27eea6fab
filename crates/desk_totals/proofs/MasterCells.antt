-- How many cells masters have, and those that changes bring.
use Rattle.std.proofs.Common.{◌≡◌, ℕ, ◌+◌, ◌*◌, ◌≤◌, ◌∙◌, List, [], ◌∷◌, length, get_or, ap, sym, refl, arith}
use Rattle.std.proofs.Common.{Ok, Err, Result}
use Rattle.std.specs.Prelude.{option_map}
use Rattle.std.specs.Option.{option_map_or}
use Rattle.std.proofs.lemmas.List.Sums.{sum_by-cons, sum_by-le, sum_by_push}
use Rattle.std.proofs.Math.Nat.{mul-le-mul}
use Rattle.master_rows.specs.declared.error.SheetFault.{SheetFault}
use Rattle.master_rows.specs.declared.master.Master.{Master}
use Rattle.master_rows.specs.declared.outline.Outline.{Outline}
use Rattle.master_rows.specs.Master.{IsMaster}
use Rattle.master_rows.specs.Outline.{read_outline}
use Rattle.master_rows.specs.Sheet.{read_sheet}
use Rattle.master_rows.proofs.Masters.{IsMaster-read_sheet}
use Rattle.master_rows.proofs.Outlines.{outlined-fault, outlined-master}
use Rattle.desk_words.specs.declared.change.Change.{Change}
use Rattle.desk_words.specs.declared.change.Change.TheVariants.{Clerk, Schema, Master as MasterChange, Rulebook}
use Rattle.desk_words.specs.declared.change.Change.TheVariants.{Edition, Region, Session, Record, Batch}
use Rattle.desk_words.specs.declared.rows.text.TextRow.{TextRow}
use Rattle.desk_words.specs.Changes.{changed, changed_all}
use Rattle.desk_words.specs.Tables.{Rows}
use Rattle.desk_valid.specs.Readings.{read}
use Rattle.desk_valid.specs.Tallies.{cell_count, cells_in, master_cells}
use Rattle.desk_totals.specs.Totals.{brought, new_cells}

-- the cells of what a body reads as
abbrev cells_read : List ℕ → Result Master SheetFault → ℕ
cells_read name given =
    option_map_or (λ (one : List ℕ × Master). cell_count one.1) (option_map (λ master. (name, master)) (read given)) 0

-- a master has at most 48 columns over 20,000 rows
cells_read-few : (name : List ℕ) (given : Result Master SheetFault)
    → ((master : Master) → given ≡ Ok master → IsMaster master) → cells_read name given ≤ 960000
cells_read-few name (Ok master) sound =
    let is = sound master refl in
    omega (arith, mul-le-mul is.narrow is.few)
cells_read-few name (Err fault) sound = omega arith

-- so a row has at most 960,000 cells
pub cells_in-few : (row : TextRow) → cells_in row ≤ 960000
cells_in-few row = cells_read-few row.name (read_sheet row.body) (λ master is. IsMaster-read_sheet _ row.body master is)

-- and all rows have that many each at most
pub master_cells-le : (masters : List TextRow) → master_cells masters ≤ length masters * 960000
master_cells-le masters =
    sum_by-le cells_in 960000 masters (λ place default within. cells_in-few (get_or masters place default))

-- the cells of the master that a body reads as are those of its outline
pub cells_in-outline : (row : TextRow) (outline : Outline) → read_outline row.body ≡ Ok outline
    → length outline.columns * outline.rows ≡ cells_in row
cells_in-outline row outline is =
    let (master, reads, outlined) = outlined-master (read_sheet row.body) outline is in
    ap (λ (one : Outline). length one.columns * one.rows) (sym outlined)
    ∙ ap (λ (given : Result Master SheetFault). cells_read row.name given) (sym reads)

-- a body that reads as none has no cells
pub cells_in-fault : (row : TextRow) (fault : SheetFault) → read_outline row.body ≡ Err fault → 0 ≡ cells_in row
cells_in-fault row fault is =
    ap (λ (given : Result Master SheetFault). cells_read row.name given)
    (sym (outlined-fault (read_sheet row.body) fault is))

-- a change brings the cells of its master
master_cells-changed : (rows : Rows) (change : Change)
    → master_cells (changed rows change).masters ≡ master_cells rows.masters + brought change
master_cells-changed rows (Clerk place row) = omega arith
master_cells-changed rows (Schema row) = omega arith
master_cells-changed rows (MasterChange row) = sum_by_push cells_in rows.masters row
master_cells-changed rows (Rulebook row) = omega arith
master_cells-changed rows (Edition row) = omega arith
master_cells-changed rows (Region row) = omega arith
master_cells-changed rows (Session clerk place row) = omega arith
master_cells-changed rows (Record clerk row) = omega arith
master_cells-changed rows (Batch clerk row) = omega arith

-- and changes bring the cells of theirs
pub master_cells-changed_all : (rows : Rows) (changes : List Change)
    → master_cells (changed_all rows changes).masters ≡ master_cells rows.masters + new_cells changes
master_cells-changed_all rows [] = omega arith
master_cells-changed_all rows (change ∷ changes) =
    omega (
      arith,
      master_cells-changed_all (changed rows change) changes,
      master_cells-changed rows change,
      sum_by-cons brought change changes,
    )

-- The outline of a master: its columns, and how many rows it has.
use Rattle.std.specs.Prelude.{ℕ, List, length, Result}
use Rattle.std.specs.Result.{result_map_both}
use Rattle.master_rows.specs.Sheet.{read_records, read_sheet}
use Rattle.master_rows.specs.declared.error.SheetFault.{SheetFault}
use Rattle.master_rows.specs.declared.master.Master.{Master}
use Rattle.master_rows.specs.declared.outline.Outline.{Outline}

-- the columns, and the number of the rows
abbrev pub outline_of : Master → Outline
outline_of master = record { columns = master.columns; rows = length master.grid.rows }

-- the outline of the master that was read, or the fault
abbrev pub outline_read : Result Master SheetFault → Result Outline SheetFault
outline_read = result_map_both outline_of (λ fault. fault)

-- the outline of the master that records read as
abbrev pub outline_of_records : List (List (List ℕ)) → Result Outline SheetFault
outline_of_records records = outline_read (read_records records)

-- the outline of the master that a sheet reads as
abbrev pub read_outline : List ℕ → Result Outline SheetFault
read_outline sheet = outline_read (read_sheet sheet)

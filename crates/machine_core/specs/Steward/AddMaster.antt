-- AddMaster: the next version of a master's name.
use Rattle.std.specs.Prelude.{ℕ, ◌+◌, List, length}
use Rattle.desk_words.specs.declared.limit.Which.TheVariants as which
use Rattle.desk_words.specs.declared.rows.text.TextRow.{TextRow}
use Rattle.master_rows.specs.Sheet.{read_sheet}
use Rattle.machine_core.specs.Checked.{Checked, ◌>>=◌, ◌>>◌, done, value_or}
use Rattle.machine_core.specs.Faults.{sheet_refusal}
use Rattle.machine_core.specs.Finding.{next_version}
use Rattle.machine_core.specs.Limits.{within}
use Rattle.desk_valid.specs.Tallies.{cell_count, master_cells}
use Rattle.machine_core.specs.Tests as tests

-- how many cells the master of a sheet has, without its header
abbrev pub cells_of : List ℕ → Checked ℕ
cells_of sheet = do
  master ← value_or (read_sheet sheet) sheet_refusal
  done (cell_count master)

-- the tests, in their order, and the row of the new master
abbrev pub master_row : List TextRow → List ℕ → List ℕ → Checked TextRow
master_row masters name body = do
  tests.proper_name name
  master ← value_or (read_sheet body) sheet_refusal
  within which.Masters (length masters + 1)
  within which.MasterCells (master_cells masters + cell_count master)
  done (record { name = name; version = next_version (λ row. row.name) masters name; body = body })

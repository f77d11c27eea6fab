-- What the limits count of a clerk, and of masters.
use Rattle.std.specs.Prelude.{ℕ, ◌+◌, ◌*◌, Bool, true, false, List, length, count_by, sum_by}
use Rattle.std.specs.Option.{option_map_or}
use Rattle.desk_words.specs.declared.rows.record.RecordRow.{RecordRow}
use Rattle.desk_words.specs.declared.rows.session.SessionRow.{SessionRow}
use Rattle.desk_words.specs.declared.rows.session.Stage.{Stage}
use Rattle.desk_words.specs.declared.rows.session.Stage.TheVariants.{Active, Committed, Abandoned}
use Rattle.desk_words.specs.declared.rows.text.TextRow.{TextRow}
use Rattle.master_rows.specs.declared.master.Master.{Master}
use Rattle.desk_valid.specs.Readings.{master_in}

-- the session is open still
abbrev pub is_active : Stage → Bool
is_active Active = true
is_active Committed = false
is_active Abandoned = false

-- how many sessions are active
abbrev pub active_count : List SessionRow → ℕ
active_count sessions = count_by (λ session. is_active session.stage) sessions

-- the bytes of some texts
abbrev pub bytes_in : List (List ℕ) → ℕ
bytes_in texts = sum_by length texts

-- the bytes that are typed in sessions
abbrev pub typed_bytes : List SessionRow → ℕ
typed_bytes sessions = sum_by (λ session. bytes_in session.typed) sessions

-- the bytes of records
abbrev pub record_bytes : List RecordRow → ℕ
record_bytes records = sum_by (λ row. bytes_in row.texts) records

-- the bytes of a clerk's texts: those typed in the sessions, and those of the records
abbrev pub text_bytes : List SessionRow → List RecordRow → ℕ
text_bytes sessions records = typed_bytes sessions + record_bytes records

-- the cells of a master, without its header
abbrev pub cell_count : Master → ℕ
cell_count master = length master.columns * length master.grid.rows

-- the cells of the master in a row
abbrev pub cells_in : TextRow → ℕ
cells_in row = option_map_or (λ master. cell_count master.1) (master_in row) 0

-- the cells of all masters
abbrev pub master_cells : List TextRow → ℕ
master_cells masters = sum_by cells_in masters

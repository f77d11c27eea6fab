-- Batch: a session for each row of a sheet, as Enter would make it. A column `zip*` is the attribute `zip`, confirmed
-- in each row whose cell there is not blank; a column without the star is typed only.
use Rattle.std.specs.Prelude.{codes, ℕ, ◌+◌, ◌-◌, ◌==◌, ◌&&◌, not, nat_eq, Bool, List, [], length, map, filter, take}
use Rattle.std.specs.Prelude.{zip, Some, None, if◌then◌else◌}
use Rattle.std.specs.List.{ends_with, list_any, range_with_len}
use Rattle.desk_words.specs.declared.limit.Which.TheVariants as which
use Rattle.desk_words.specs.declared.refusal.Kind.TheVariants as kind
use Rattle.desk_words.specs.declared.refusal.Refusal.TheVariants.{NoSuch, Twice}
use Rattle.desk_words.specs.declared.rows.act.Act.TheVariants as act
use Rattle.desk_words.specs.declared.rows.session.SessionRow.{SessionRow}
use Rattle.desk_words.specs.Tables.{Published}
use Rattle.desk_valid.specs.Bindings.{bound_at}
use Rattle.master_rows.specs.Sheet.{read_sheet}
use Rattle.machine_core.specs.Checked.{Checked, ◌>>=◌, ◌>>◌, done, each_following, value_or, some_or, unless, certainly}
use Rattle.machine_core.specs.Clerk.Enter.{new_session}
use Rattle.machine_core.specs.Faults.{sheet_refusal}
use Rattle.machine_core.specs.Finding.{newest_edition}
use Rattle.machine_core.specs.Limits.{within}
use Rattle.machine_core.specs.Own.{Own}
use Rattle.machine_core.specs.declared.column.Column.{Column}
use Rattle.machine_core.specs.declared.deed.Deed.{Deed}
use Rattle.desk_valid.specs.Tallies.{active_count, text_bytes, typed_bytes}
use Rattle.machine_core.specs.Tests.{attribute_of}

-- the column ends with a star
abbrev pub is_starred : List ℕ → Bool
is_starred column = ends_with nat_eq column (codes "*")

-- the word of the attribute: one star at most is taken off
abbrev pub word_of : List ℕ → List ℕ
word_of column = if is_starred column then take (length column - 1) column else column

-- the column of an attribute that none before it has
abbrev pub another_column : List (List ℕ) → List Column → List ℕ → Checked Column
another_column attributes before column = do
  place ← attribute_of attributes (word_of column)
  unless (not (list_any (λ earlier. earlier.attribute == place) before)) (Twice (word_of column))
  done (record { attribute = place; confirms = is_starred column })

-- the cell is to be confirmed: its column has a star, and it is not blank
abbrev pub is_confirmed : Column × List ℕ → Bool
is_confirmed cell = cell.0.confirms && not (length cell.1 == 0)

-- the session of a row
abbrev pub row_session : ℕ → ℕ → ℕ → List Column → List (List ℕ) → SessionRow
row_session edition width batch columns cells =
    new_session edition width (map (λ cell. (cell.0.attribute, cell.1)) (zip columns cells))
    (map (λ cell. cell.0.attribute) (filter is_confirmed (zip columns cells))) batch

-- the sessions after this many others, each at its place
abbrev pub placed : ℕ → List SessionRow → List (ℕ × SessionRow)
placed count sessions = zip (range_with_len count (length sessions)) sessions

-- the deed of a batch: its sessions after the others, and the batch of so many
abbrev pub batch_deed : Own → ℕ → ℕ → List SessionRow → Deed
batch_deed own edition count sessions = record {
  sessions = placed (length own.sessions) sessions;
  record_row = None;
  batch = Some (record { edition = edition; first = length own.sessions + 1; count = count });
  act = act.Batched;
  target = length own.batches;
}

-- the last limit, of the bytes, and the deed of so many sessions
abbrev pub batch_of : Own → ℕ → ℕ → List SessionRow → Checked Deed
batch_of own edition count sessions = do
  within which.Bytes (text_bytes own.sessions own.records + typed_bytes sessions)
  done (batch_deed own edition count sessions)

-- the limits, in their order, and the deed: a session for each row after the others, and the batch of them
abbrev pub batch_rows : Own → ℕ → ℕ → List Column → List (List (List ℕ)) → Checked Deed
batch_rows own edition width columns rows = do
  within which.BatchRows (length rows)
  within which.ActiveSessions (active_count own.sessions + length rows)
  within which.Sessions (length own.sessions + length rows)
  within which.Batches (length own.batches + 1)
  batch_of own edition (length rows) (map (row_session edition width (length own.batches + 1) columns) rows)

-- the tests of the edition and the sheet, in their order, and the deed of its rows
abbrev pub enter_batch : Published → Own → List ℕ → List ℕ → Checked Deed
enter_batch published own edition_name body = do
  edition ← some_or (newest_edition published.editions edition_name) (NoSuch kind.Edition)
  bound ← certainly (bound_at published edition)
  sheet ← value_or (read_sheet body) sheet_refusal
  columns ← each_following [] (another_column bound.names.attributes) sheet.columns
  batch_rows own edition (length bound.names.attributes) columns sheet.grid.rows

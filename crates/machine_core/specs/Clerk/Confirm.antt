-- Confirm: the cells are typed, and confirmed.
use Rattle.std.specs.Prelude.{ℕ, ◌-◌, Bool, true, List, [], ◌∷◌, map, slice_set}
use Rattle.desk_words.specs.declared.limit.Which.TheVariants as which
use Rattle.desk_words.specs.declared.rows.act.Act.TheVariants as act
use Rattle.desk_words.specs.declared.rows.session.SessionRow.{SessionRow}
use Rattle.desk_words.specs.Tables.{Published}
use Rattle.machine_core.specs.Answers.{bound_for}
use Rattle.machine_core.specs.Checked.{Checked, ◌>>=◌, ◌>>◌, done, each}
use Rattle.machine_core.specs.Clerk.Enter.{typed_over}
use Rattle.machine_core.specs.Limits.{within}
use Rattle.machine_core.specs.Own.{Own, puts}
use Rattle.machine_core.specs.declared.deed.Deed.{Deed}
use Rattle.desk_valid.specs.Tallies.{text_bytes}
use Rattle.machine_core.specs.Tests.{active_session, typed_cell}

-- the flags with those at these places set
abbrev pub confirmed_at : List Bool → List ℕ → List Bool
confirmed_at flags [] = flags
confirmed_at flags (place ∷ places) = confirmed_at (slice_set flags place true) places

-- the session with these cells typed and confirmed
abbrev pub with_cells : SessionRow → List (ℕ × List ℕ) → SessionRow
with_cells session cells = record session {
  typed = typed_over session.typed cells;
  confirmed = confirmed_at session.confirmed (map (λ cell. cell.0) cells);
}

-- the tests of cells of these attributes, and the session with them typed and confirmed
abbrev pub cells_confirmed : List (List ℕ) → SessionRow → List (List ℕ × List ℕ) → Checked SessionRow
cells_confirmed attributes session cells = do
  texts ← each (typed_cell attributes) cells
  done (with_cells session texts)

-- the tests on the session and the cells, in their order, and the session after them
abbrev pub confirm_row : Published → Own → ℕ → List (List ℕ × List ℕ) → Checked SessionRow
confirm_row published own number cells = do
  session ← active_session own.sessions number
  bound ← bound_for published session
  cells_confirmed bound.names.attributes session cells

-- the bytes of a clerk's texts, once a session of this number is in place of the one that stands there
abbrev pub bytes_with : Own → ℕ → SessionRow → ℕ
bytes_with own number session = text_bytes (slice_set own.sessions (number - 1) session) own.records

-- the last test, of the bytes, and the deed: the session of this number has the cells typed and confirmed
abbrev pub confirm : Published → Own → ℕ → List (List ℕ × List ℕ) → Checked Deed
confirm published own number cells = do
  session ← confirm_row published own number cells
  within which.Bytes (bytes_with own number session)
  done (puts (number - 1) session act.Changed)

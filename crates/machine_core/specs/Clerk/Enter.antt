-- Enter: a session on the newest version of an edition. Cells that are not given are blank.
use Rattle.std.specs.Prelude.{ℕ, ◌+◌, List, [], ◌∷◌, length, replicate, slice_set}
use Rattle.desk_words.specs.declared.limit.Which.TheVariants as which
use Rattle.desk_words.specs.declared.refusal.Kind.TheVariants as kind
use Rattle.desk_words.specs.declared.refusal.Refusal.TheVariants.{NoSuch}
use Rattle.desk_words.specs.declared.rows.act.Act.TheVariants as act
use Rattle.desk_words.specs.declared.rows.session.SessionRow.{SessionRow}
use Rattle.desk_words.specs.declared.rows.session.Stage.TheVariants.{Active}
use Rattle.desk_words.specs.Tables.{Published}
use Rattle.desk_valid.specs.Bindings.{bound_at}
use Rattle.desk_base.specs.Places.{flags_of}
use Rattle.machine_core.specs.Checked.{Checked, ◌>>=◌, ◌>>◌, done, each, some_or, certainly}
use Rattle.machine_core.specs.Finding.{newest_edition}
use Rattle.machine_core.specs.Limits.{within}
use Rattle.machine_core.specs.Own.{Own, puts}
use Rattle.machine_core.specs.declared.deed.Deed.{Deed}
use Rattle.desk_valid.specs.Tallies.{active_count, bytes_in, text_bytes}
use Rattle.machine_core.specs.Tests.{attribute_of, typed_cell}

-- the texts with these typed over them at their places, the first one first
abbrev pub typed_over : List (List ℕ) → List (ℕ × List ℕ) → List (List ℕ)
typed_over texts [] = texts
typed_over texts ((place, text) ∷ others) = typed_over (slice_set texts place text) others

-- a session on the edition at a place, with these cells typed and these attributes confirmed
abbrev pub new_session : ℕ → ℕ → List (ℕ × List ℕ) → List ℕ → ℕ → SessionRow
new_session edition width cells confirmed batch = record {
  edition = edition;
  typed = typed_over (replicate width []) cells;
  confirmed = flags_of width confirmed;
  stage = Active;
  batch = batch;
}

-- the tests of the cells and of the limits, in their order, and the new session on an edition of these attributes
abbrev pub entered : Own → ℕ → List (List ℕ) → List (List ℕ × List ℕ) → List (List ℕ) → Checked SessionRow
entered own edition attributes cells confirmed = do
  texts ← each (typed_cell attributes) cells
  places ← each (attribute_of attributes) confirmed
  within which.ActiveSessions (active_count own.sessions + 1)
  within which.Sessions (length own.sessions + 1)
  let session = new_session edition (length attributes) texts places 0
  within which.Bytes (text_bytes own.sessions own.records + bytes_in session.typed)
  done session

-- the new session on the newest version of an edition
abbrev pub enter_row : Published → Own → List ℕ → List (List ℕ × List ℕ) → List (List ℕ) → Checked SessionRow
enter_row published own edition_name cells confirmed = do
  edition ← some_or (newest_edition published.editions edition_name) (NoSuch kind.Edition)
  bound ← certainly (bound_at published edition)
  entered own edition bound.names.attributes cells confirmed

-- the deed: the new session comes after the others
abbrev pub enter : Published → Own → List ℕ → List (List ℕ × List ℕ) → List (List ℕ) → Checked Deed
enter published own edition_name cells confirmed = do
  session ← enter_row published own edition_name cells confirmed
  done (puts (length own.sessions) session act.Opened)

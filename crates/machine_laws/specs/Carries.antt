-- What an accepted Carry does.
use Rattle.std.specs.Prelude.{◌≡◌, ℕ, ◌-◌, ◌<◌, ◌≤◌, List, [], ◌∷◌, Some, slice_get, slice_set}
use Rattle.desk_carry.specs.declared.session.Moved.{Moved}
use Rattle.desk_carry.specs.Moves.{IsMoved}
use Rattle.desk_words.specs.declared.change.Change.{Change}
use Rattle.desk_words.specs.declared.change.Change.TheVariants as change
use Rattle.desk_words.specs.declared.command.Ticket.{Ticket}
use Rattle.desk_words.specs.declared.reply.Reply.{Reply}
use Rattle.desk_words.specs.declared.reply.Reply.TheVariants as reply
use Rattle.desk_words.specs.declared.rows.act.Act.TheVariants as act
use Rattle.desk_words.specs.declared.rows.clerk.ClerkRow.{ClerkRow}
use Rattle.desk_words.specs.declared.rows.session.SessionRow.{SessionRow}
use Rattle.desk_words.specs.declared.rows.session.Stage.TheVariants.{Active}
use Rattle.desk_words.specs.Changes.{changed_all}
use Rattle.desk_words.specs.Tables.{Published, Rows, list_at, published_of}
use Rattle.desk_valid.specs.declared.bound.Bound.{Bound}
use Rattle.desk_valid.specs.Bindings.{bound_at}
use Rattle.fix_engine.specs.Verdicts.{IsAnswer}
use Rattle.machine_core.specs.Answers.{state_of}
use Rattle.machine_core.specs.Checked.{Answer, IsFound}
use Rattle.machine_core.specs.Machine.{clerk_of}
use Rattle.machine_core.specs.Own.{own_of}
use Rattle.machine_core.specs.Ticket.{ticketed}
use Rattle.machine_core.specs.Views.{edition_at, view_with}

-- the session stands on this version of its edition, a newer one. Each attribute has the text and the flag of the one
-- with its word, and is an unconfirmed blank where there was none; the stage and the batch are as they were
pub record IsCarried (published : Published) (version : ℕ) (old new : SessionRow) : Type 0 where
  pub same_name : (edition_at published new.edition).name ≡ (edition_at published old.edition).name
  pub asked_for : (edition_at published new.edition).version ≡ version
  pub newer : (edition_at published old.edition).version < version
  pub before : Bound
  pub following : Bound
  pub binds : bound_at published old.edition ≡ Some before
  pub binds_following : bound_at published new.edition ≡ Some following
  pub moved : Moved
  pub is_moved : IsMoved before.names.attributes following.names.attributes old.typed old.confirmed moved
  pub typed : new.typed ≡ moved.typed
  pub confirmed : new.confirmed ≡ moved.confirmed
  pub stage : new.stage ≡ old.stage
  pub batch : new.batch ≡ old.batch

-- the row of the clerk at a place, after a Carry of the session with this number
abbrev pub row_after : Rows → ℕ → Ticket → ℕ → ClerkRow
row_after rows place ticket number = ticketed (own_of rows place).row ticket act.Changed (number - 1)

-- the active session of this number, counted from 1, is carried to the version: it is put at its place, and the
-- clerk's row is put. Nothing else of the tables changes. It is answered as a session of the newer version is shown, by
-- what that version's rules make of it
pub record CarriesOne (rows : Rows) (name : List ℕ) (ticket : Ticket) (number version : ℕ) (answer : Reply)
    (changes : List Change) : Type 0 where
  pub place : ℕ
  pub found : IsFound (clerk_of rows.clerks name) place
  pub old : SessionRow
  pub counted : 1 ≤ number
  pub stands : slice_get (list_at rows.sessions place) (number - 1) ≡ Some old
  pub is_open : old.stage ≡ Active
  pub new : SessionRow
  pub is_carried : IsCarried (published_of rows) version old new
  pub two_changes : changes
      ≡ change.Session place (number - 1) new ∷ change.Clerk place (row_after rows place ticket number) ∷ []
  pub leaves : changed_all rows changes ≡ record rows {
    clerks = slice_set rows.clerks place (row_after rows place ticket number);
    sessions = slice_set rows.sessions place (slice_set (list_at rows.sessions place) (number - 1) new);
  }
  pub made_of_it : Answer
  pub answers : IsAnswer is_carried.following.kit (state_of new) made_of_it.first made_of_it.second made_of_it.verdict
  pub is_told : answer ≡ reply.View (view_with (published_of rows) number new is_carried.following made_of_it)

-- What an accepted command of a clerk has met: one record a command, and one lemma that takes its tests apart.
use Rattle.std.proofs.Common.{◌≡◌, ◌+◌, ◌<◌, ◌≤◌, ℕ, List, [], Some, arith, ap, length, map, subst, sym, true}
use Rattle.std.proofs.Common.{◌∙◌}
use Rattle.std.specs.Prelude.{Ok, nat_le}
use Rattle.std.proofs.lemmas.Bool.Decides.{nat_tests}
use Rattle.desk_words.specs.declared.clerk_work.Accept.{Accept}
use Rattle.desk_words.specs.declared.limit.Which.{Which}
use Rattle.desk_words.specs.declared.limit.Which.TheVariants as which
use Rattle.desk_words.specs.declared.rows.record.RecordRow.{RecordRow}
use Rattle.desk_words.specs.declared.rows.session.SessionRow.{SessionRow}
use Rattle.desk_words.specs.declared.rows.session.Stage.TheVariants.{Committed}
use Rattle.desk_words.specs.Tables.{Published}
use Rattle.desk_valid.specs.Bindings.{bound_at}
use Rattle.desk_valid.specs.Tallies.{active_count, bytes_in, is_active, text_bytes, typed_bytes}
use Rattle.desk_valid.specs.declared.bound.Bound.{Bound}
use Rattle.fix_model.specs.declared.state.State.{State}
use Rattle.fix_model.specs.States.{uncovered_count}
use Rattle.master_rows.specs.declared.master.Master.{Master}
use Rattle.master_rows.specs.Sheet.{read_sheet}
use Rattle.machine_core.specs.Answers.{state_of}
use Rattle.machine_core.specs.Checked.{Gives, each, each_following}
use Rattle.machine_core.specs.Clerk.Batch.{another_column, batch_deed, enter_batch, row_session}
use Rattle.machine_core.specs.Clerk.Carry.{carried_to, carry_row}
use Rattle.machine_core.specs.Clerk.Commit.{accepts, commit_rows, fixed_end, record_at}
use Rattle.machine_core.specs.Clerk.Confirm.{confirm_row, with_cells}
use Rattle.machine_core.specs.Clerk.Enter.{enter_row, new_session}
use Rattle.machine_core.specs.Clerk.Withdraw.{cleared, confirmed_place, withdraw_row}
use Rattle.machine_core.specs.Finding.{edition_named, newest_edition, session_at}
use Rattle.machine_core.specs.Limits.{limit_of}
use Rattle.machine_core.specs.Own.{Own}
use Rattle.machine_core.specs.Tests.{active_session, attribute_of, typed_cell}
use Rattle.machine_core.specs.Views.{edition_at}
use Rattle.machine_core.specs.declared.column.Column.{Column}
use Rattle.machine_core.specs.declared.deed.Deed.{Deed}
use Rattle.machine_core.proofs.Walks.{Gives-Met, Met-Gives}

-- no more than may stand
pub few-stand : (which : Which) (count : ℕ) → nat_le count (limit_of which) ≡ true → count ≤ limit_of which
few-stand which count holds = grind (arith, nat_tests, holds)

-- the session of a number, which is active
pub record IsActiveSession (sessions : List SessionRow) (number : ℕ) (session : SessionRow) : Type 0 where
  pub found : session_at sessions number ≡ Some session
  pub active : is_active session.stage ≡ true

-- a new session
pub record IsEntered (published : Published) (own : Own) (name : List ℕ) (cells : List (List ℕ × List ℕ))
    (confirmed : List (List ℕ)) (session : SessionRow) : Type 0 where
  pub edition : ℕ
  pub bound : Bound
  pub texts : List (ℕ × List ℕ)
  pub places : List ℕ
  pub newest : newest_edition published.editions name ≡ Some edition
  pub binds : bound_at published edition ≡ Some bound
  pub typed : Gives (each (typed_cell bound.names.attributes) cells) (Ok texts)
  pub vouched : Gives (each (attribute_of bound.names.attributes) confirmed) (Ok places)
  pub active : active_count own.sessions + 1 ≤ limit_of which.ActiveSessions
  pub few : length own.sessions + 1 ≤ limit_of which.Sessions
  pub bytes : text_bytes own.sessions own.records + bytes_in session.typed ≤ limit_of which.Bytes
  pub is : session ≡ new_session edition (length bound.names.attributes) texts places 0

-- a session with cells typed and confirmed
pub record IsConfirmed (published : Published) (own : Own) (number : ℕ) (cells : List (List ℕ × List ℕ))
    (session : SessionRow) : Type 0 where
  pub old : SessionRow
  pub bound : Bound
  pub texts : List (ℕ × List ℕ)
  pub stands : IsActiveSession own.sessions number old
  pub binds : bound_at published old.edition ≡ Some bound
  pub typed : Gives (each (typed_cell bound.names.attributes) cells) (Ok texts)
  pub is : session ≡ with_cells old texts

-- a session with attributes confirmed no longer
pub record IsWithdrawn (published : Published) (own : Own) (number : ℕ) (names : List (List ℕ))
    (session : SessionRow) : Type 0 where
  pub old : SessionRow
  pub bound : Bound
  pub places : List ℕ
  pub stands : IsActiveSession own.sessions number old
  pub binds : bound_at published old.edition ≡ Some bound
  pub found : Gives (each (confirmed_place bound.names.attributes old.confirmed) names) (Ok places)
  pub is : session ≡ record old { confirmed = cleared old.confirmed places }

-- a session that is committed, with its record
pub record IsCommitted (published : Published) (own : Own) (number : ℕ) (accept : Accept)
    (both : SessionRow × RecordRow) : Type 0 where
  pub session : SessionRow
  pub bound : Bound
  pub end : State
  pub stands : IsActiveSession own.sessions number session
  pub binds : bound_at published session.edition ≡ Some bound
  pub ended : Gives (fixed_end bound.kit (state_of session)) (Ok end)
  pub accepted : Gives (accepts accept (uncovered_count end)) (Ok tt)
  pub bytes : text_bytes own.sessions own.records + bytes_in both.1.texts ≤ limit_of which.Bytes
  pub is : both ≡ (record session { stage = Committed }, record_at bound number end)

-- the sessions of a batch, one for each row of its sheet
abbrev pub batch_sessions : Own → ℕ → Bound → List Column → Master → List SessionRow
batch_sessions own edition bound columns sheet =
    map (row_session edition (length bound.names.attributes) (length own.batches + 1) columns) sheet.grid.rows

-- what a batch does
pub record IsBatched (published : Published) (own : Own) (name body : List ℕ) (deed : Deed) : Type 0 where
  pub edition : ℕ
  pub bound : Bound
  pub sheet : Master
  pub columns : List Column
  pub newest : newest_edition published.editions name ≡ Some edition
  pub binds : bound_at published edition ≡ Some bound
  pub reads : read_sheet body ≡ Ok sheet
  pub found : Gives (each_following [] (another_column bound.names.attributes) sheet.columns) (Ok columns)
  pub active : active_count own.sessions + length sheet.grid.rows ≤ limit_of which.ActiveSessions
  pub few : length own.sessions + length sheet.grid.rows ≤ limit_of which.Sessions
  pub batches : length own.batches + 1 ≤ limit_of which.Batches
  pub bytes : text_bytes own.sessions own.records + typed_bytes (batch_sessions own edition bound columns sheet)
      ≤ limit_of which.Bytes
  pub is : deed ≡ batch_deed own edition (length sheet.grid.rows) (batch_sessions own edition bound columns sheet)

-- a session that is carried
pub record IsCarryOf (published : Published) (own : Own) (number version : ℕ) (moved : SessionRow) : Type 0 where
  pub session : SessionRow
  pub edition : ℕ
  pub before : Bound
  pub after : Bound
  pub stands : IsActiveSession own.sessions number session
  pub named : edition_named published.editions (edition_at published session.edition).name version ≡ Some edition
  pub newer : (edition_at published session.edition).version < version
  pub binds : bound_at published session.edition ≡ Some before
  pub binds_after : bound_at published edition ≡ Some after
  pub is : moved ≡ carried_to session edition before after

pub active_session-met : (sessions : List SessionRow) (number : ℕ) (session : SessionRow)
    → Gives (active_session sessions number) (Ok session) → IsActiveSession sessions number session
active_session-met sessions number session gives =
    let (one, found, (passed, active, same)) = Met-Gives (active_session sessions number) (Ok session) gives in
    subst (IsActiveSession sessions number) (sym same) (record { found = found; active = active })

module _ (published : Published) (own : Own) where
  pub enter_row-ok : (name : List ℕ) (cells : List (List ℕ × List ℕ)) (confirmed : List (List ℕ))
      (session : SessionRow) → Gives (enter_row published own name cells confirmed) (Ok session)
      → IsEntered published own name cells confirmed session
  enter_row-ok name cells confirmed session gives =
      let (
        edition,
        newest,
        (
          bound,
          binds,
          (texts, typed, (places, vouched, (_, active, (_, sessions, (_, bytes, is))))),
        ),
      ) =
      Met-Gives (enter_row published own name cells confirmed) (Ok session) gives in
      record {
        edition = edition;
        bound = bound;
        texts = texts;
        places = places;
        newest = newest;
        binds = binds;
        typed = Gives-Met (each (typed_cell bound.names.attributes) cells) (Ok texts) typed;
        vouched = Gives-Met (each (attribute_of bound.names.attributes) confirmed) (Ok places) vouched;
        active = few-stand which.ActiveSessions (active_count own.sessions + 1) active;
        few = few-stand which.Sessions (length own.sessions + 1) sessions;
        bytes = subst (λ (one : SessionRow). text_bytes own.sessions own.records + bytes_in one.typed
            ≤ limit_of which.Bytes) (sym is) (few-stand which.Bytes (text_bytes own.sessions own.records
            + bytes_in (new_session edition (length bound.names.attributes) texts places 0).typed) bytes);
        is = is;
      }

  pub confirm_row-ok : (number : ℕ) (cells : List (List ℕ × List ℕ)) (session : SessionRow)
      → Gives (confirm_row published own number cells) (Ok session) → IsConfirmed published own number cells session
  confirm_row-ok number cells session gives =
      let (old, stands, (bound, binds, (texts, typed, is))) =
      Met-Gives (confirm_row published own number cells) (Ok session) gives in
      record {
        old = old;
        bound = bound;
        texts = texts;
        stands = active_session-met own.sessions number old
            (Gives-Met (active_session own.sessions number) (Ok old) stands);
        binds = binds;
        typed = Gives-Met (each (typed_cell bound.names.attributes) cells) (Ok texts) typed;
        is = is;
      }

  pub withdraw_row-ok : (number : ℕ) (names : List (List ℕ)) (session : SessionRow)
      → Gives (withdraw_row published own number names) (Ok session) → IsWithdrawn published own number names session
  withdraw_row-ok number names session gives =
      let (old, stands, (bound, binds, (places, found, is))) =
      Met-Gives (withdraw_row published own number names) (Ok session) gives in
      record {
        old = old;
        bound = bound;
        places = places;
        stands = active_session-met own.sessions number old
            (Gives-Met (active_session own.sessions number) (Ok old) stands);
        binds = binds;
        found = Gives-Met (each (confirmed_place bound.names.attributes old.confirmed) names) (Ok places) found;
        is = is;
      }

  pub commit_rows-ok : (number : ℕ) (accept : Accept) (both : SessionRow × RecordRow)
      → Gives (commit_rows published own number accept) (Ok both) → IsCommitted published own number accept both
  commit_rows-ok number accept both gives =
      let (session, stands, (bound, binds, (end, ended, (row, accepted, (_, bytes, is))))) =
      Met-Gives (commit_rows published own number accept) (Ok both) gives in
      let (enough, is_enough, is_row) = accepted in
      let pair : RecordRow → SessionRow × RecordRow = λ one. (record session { stage = Committed }, one) in
      let Fits : RecordRow → Type 0 = λ one.
      text_bytes own.sessions own.records + bytes_in one.texts ≤ limit_of which.Bytes in
      record {
        session = session;
        bound = bound;
        end = end;
        stands = active_session-met own.sessions number session
            (Gives-Met (active_session own.sessions number) (Ok session) stands);
        binds = binds;
        ended = Gives-Met (fixed_end bound.kit (state_of session)) (Ok end) ended;
        accepted = Gives-Met (accepts accept (uncovered_count end)) (Ok enough) is_enough;
        bytes = subst (λ (one : SessionRow × RecordRow). Fits one.1) (sym is)
            (few-stand which.Bytes (text_bytes own.sessions own.records + bytes_in row.texts) bytes);
        is = is ∙ ap pair is_row;
      }

  pub enter_batch-ok : (name body : List ℕ) (deed : Deed) → Gives (enter_batch published own name body) (Ok deed)
      → IsBatched published own name body deed
  enter_batch-ok name body deed gives =
      let (edition, newest, (bound, binds, (sheet, reads, (columns, found, (_, few_rows, rest))))) =
      Met-Gives (enter_batch published own name body) (Ok deed) gives in
      let (_, active, (_, sessions, (_, batches, (_, bytes, is)))) = rest in
      record {
        edition = edition;
        bound = bound;
        sheet = sheet;
        columns = columns;
        newest = newest;
        binds = binds;
        reads = reads;
        found = Gives-Met (each_following [] (another_column bound.names.attributes) sheet.columns) (Ok columns) found;
        active = few-stand which.ActiveSessions (active_count own.sessions + length sheet.grid.rows) active;
        few = few-stand which.Sessions (length own.sessions + length sheet.grid.rows) sessions;
        batches = few-stand which.Batches (length own.batches + 1) batches;
        bytes = few-stand which.Bytes (text_bytes own.sessions own.records + typed_bytes (batch_sessions own
            edition bound columns sheet)) bytes;
        is = is;
      }

  pub carry_row-ok : (number version : ℕ) (moved : SessionRow)
      → Gives (carry_row published own number version) (Ok moved) → IsCarryOf published own number version moved
  carry_row-ok number version moved gives =
      let (session, stands, (edition, named, (_, newer, (before, binds, (after, binds_after, is))))) =
      Met-Gives (carry_row published own number version) (Ok moved) gives in
      record {
        session = session;
        edition = edition;
        before = before;
        after = after;
        stands = active_session-met own.sessions number session
            (Gives-Met (active_session own.sessions number) (Ok session) stands);
        named = named;
        newer = grind (arith, nat_tests, newer);
        binds = binds;
        binds_after = binds_after;
        is = is;
      }

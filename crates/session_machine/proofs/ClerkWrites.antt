-- What a clerk's write comes to, by the clerk's place and turn.
use Rattle.std.proofs.Common.{◌≡◌, ◌∙◌, ℕ, List, [], Option, Some, None}
use Rattle.std.proofs.Common.{refl, sym, ap, subst}
use Rattle.std.specs.Prelude.{Result, Ok, Err, IsErrAnd}
use Rattle.desk_words.specs.declared.change.Change.{Change}
use Rattle.desk_words.specs.declared.clerk_work.ClerkWork.{ClerkWork}
use Rattle.desk_words.specs.declared.command.Command.TheVariants.{Clerk}
use Rattle.desk_words.specs.declared.command.Ticket.{Ticket}
use Rattle.desk_words.specs.declared.reply.Reply.{Reply}
use Rattle.desk_words.specs.declared.rows.clerk.ClerkRow.{ClerkRow}
use Rattle.desk_words.specs.Tables.{Rows, published_of}
use Rattle.machine_core.specs.Checked.{Checked, ◌>>=◌, done, Gives, IsFound, run, Outcome, and_then}
use Rattle.machine_core.specs.Kept.{kept_reply}
use Rattle.machine_core.specs.Machine.{changes_if, clerk_of, clerk_write, clerk_write_at, deed_of, machine}
use Rattle.machine_core.specs.Outcomes.{Answers, Finds}
use Rattle.machine_core.specs.Own.{Own, after, changes_of, own_of}
use Rattle.machine_core.specs.Ticket.{use_of}
use Rattle.machine_core.specs.declared.deed.Deed.{Deed}
use Rattle.machine_core.specs.declared.stop.Stop.{Stop}
use Rattle.machine_core.specs.declared.ticket.Use.{Use}
use Rattle.machine_core.specs.declared.ticket.Use.TheVariants.{Fresh, Repeated}
use Rattle.machine_core.proofs.Chains.{Gives-bind, Gives-found}
use Rattle.machine_core.proofs.Answering.{Answers-found, Answers-stopped, Answers-then, Answers-same}
use Rattle.session_machine.specs.Written.{clerk_changes}
use Rattle.session_machine.proofs.ClerkOwn.{own-there}

-- the reply of a write, with the changes of its deed
abbrev told : Rows → ℕ → Ticket → Reply × Option Deed → Checked (Reply × List Change)
told rows place ticket both = done (both.0, changes_if place (own_of rows place).row ticket both.1)

-- the write of the clerk at a place, at whatever turn
abbrev write_at : Rows → Ticket → ClerkWork → ℕ → Checked (Reply × List Change)
write_at rows ticket work place = clerk_write (published_of rows) (own_of rows place) ticket work >>= told rows place
    ticket

module _ (rows : Rows) (name : List ℕ) (ticket : Ticket) (work : ClerkWork) where
  -- where the name is that of no clerk, the write stops there
  pub write-unnamed : (stop : Stop) (result : Result (Reply × List Change) Stop) → IsErrAnd result (λ one. one ≡ stop)
      → Finds {A = ℕ} (Err stop) (clerk_of rows.clerks name) → Answers result (machine rows (Clerk name ticket work))
  write-unnamed stop result is finds =
      let found : Checked ℕ = clerk_of rows.clerks name in
      Answers-stopped found (write_at rows ticket work) stop result is (Answers-found found (Err stop) finds)

  -- where it is not the clerk's turn, it stops there
  write-untimely : (place : ℕ) (stop : Stop) (result : Result (Reply × List Change) Stop)
      → IsFound (clerk_of rows.clerks name) place → IsErrAnd result (λ one. one ≡ stop)
      → Finds {A = Use} (Err stop) (use_of (own_of rows place).row ticket)
      → Answers result (machine rows (Clerk name ticket work))
  write-untimely place stop result found is finds =
      let own : Own = own_of rows place in
      let turn : Checked Use = use_of own.row ticket in
      let write : Checked (Reply × Option Deed) = clerk_write (published_of rows) own ticket work in
      let untimely : Answers {A = Reply × Option Deed} (Err stop) write = Answers-stopped turn
      (clerk_write_at (published_of rows) own work) stop (Err stop) refl (Answers-found turn (Err stop) finds) in
      Answers-then (clerk_of rows.clerks name) (write_at rows ticket work) place result
      (Gives-found (clerk_of rows.clerks name) place found)
      (Answers-stopped write (told rows place ticket) stop result is untimely)

  -- and else it is the write at that turn
  write-timely : (place : ℕ) (used : Use) → IsFound (clerk_of rows.clerks name) place
      → IsFound (use_of (own_of rows place).row ticket) used
      → run (machine rows (Clerk name ticket work)) ≡ run (clerk_changes rows place ticket work used)
  write-timely place used found turn =
      let own : Own = own_of rows place in
      ap (λ (one : Outcome ℕ). and_then one (λ there. run (write_at rows ticket work there))) found
      ∙ ap (λ (one : Outcome Use). and_then
      (and_then one (λ used. run (clerk_write_at (published_of rows) own work used)))
      (λ both. run (told rows place ticket both))) turn

-- the own rows of a clerk, and the clerk's row, as they were read from tables with these rows
module _ (rows tables : Rows) (same : tables ≡ rows) (place : ℕ) (own : Own) (is : own ≡ own_of rows place)
    (row : ClerkRow) (reads : row ≡ own.row) where
  -- the row is that of the tables
  row-there : row ≡ (own_of tables place).row
  row-there = reads ∙ ap (λ (one : Own). one.row) (own-there rows tables same place own is)

  module _ (name : List ℕ) (ticket : Ticket) (work : ClerkWork) (result : Result (Reply × List Change) Stop)
      (found : IsFound (clerk_of tables.clerks name) place) where
    -- the result is that of the write over tables with these rows
    abbrev Told : Rows → Type 0
    Told one = Answers result (machine one (Clerk name ticket work))

    -- where it is not the clerk's turn by that row, the write stops there
    pub write-stopped : (stop : Stop) → IsErrAnd result (λ one. one ≡ stop)
        → Finds {A = Use} (Err stop) (use_of row ticket) → Answers result (machine rows (Clerk name ticket work))
    write-stopped stop fails finds =
        let Stops : ClerkRow → Type 0 = λ one. Finds {A = Use} (Err stop) (use_of one ticket) in
        subst Told same (write-untimely tables name ticket work place stop result found fails
        (subst Stops row-there finds))

    -- and else it is the write at that turn
    pub write-told : (used : Use) → IsFound (use_of row ticket) used
        → Answers result (clerk_changes tables place ticket work used)
        → Answers result (machine rows (Clerk name ticket work))
    write-told used turn answers =
        let its : IsFound (use_of (own_of tables place).row ticket) used =
        ap (λ (one : ClerkRow). run (use_of one ticket)) (sym row-there) ∙ turn in
        let machine_is = write-timely tables name ticket work place used found its in
        subst Told same (Answers-same (clerk_changes tables place ticket work used)
        (machine tables (Clerk name ticket work)) result (sym machine_is) answers)

module _ (rows : Rows) (place : ℕ) (ticket : Ticket) (work : ClerkWork) where
  -- a repeat has the kept reply, and no changes
  pub repeated-gives : (answer : Reply)
      → Gives (kept_reply (published_of rows) (own_of rows place) (own_of rows place).row.act
      (own_of rows place).row.target) (Ok answer)
      → Gives (clerk_changes rows place ticket work Repeated) (Ok (answer, []))
  repeated-gives answer gives =
      let own : Own = own_of rows place in
      let last : Reply → Checked (Reply × Option Deed) = λ one. done (one, None) in
      Gives-bind (clerk_write_at (published_of rows) own work Repeated) (told rows place ticket) (answer, None)
      (Ok (answer, [])) (Gives-bind (kept_reply (published_of rows) own own.row.act own.row.target) last answer
      (Ok (answer, None)) gives refl) refl

  -- a deed of the clerk, with the reply over the rows after it
  abbrev replied : Deed → Checked (Reply × Option Deed)
  replied deed = kept_reply (published_of rows) (after (own_of rows place) deed) deed.act deed.target
      >>= (λ answer. done (answer, Some deed))

  -- a new write has the reply over the rows after it, and the changes of its deed
  pub fresh-gives : (deed : Deed) (answer : Reply)
      → Gives (deed_of (published_of rows) (own_of rows place) work) (Ok deed)
      → Gives (kept_reply (published_of rows) (after (own_of rows place) deed) deed.act deed.target) (Ok answer)
      → Gives (clerk_changes rows place ticket work Fresh)
      (Ok (answer, changes_of place (own_of rows place).row ticket deed))
  fresh-gives deed answer does gives =
      let own : Own = own_of rows place in
      let last : Reply → Checked (Reply × Option Deed) = λ one. done (one, Some deed) in
      Gives-bind (clerk_write_at (published_of rows) own work Fresh) (told rows place ticket) (answer, Some deed)
      (Ok (answer, changes_of place own.row ticket deed))
      (Gives-bind (deed_of (published_of rows) own work) replied deed (Ok (answer, Some deed)) does
      (Gives-bind (kept_reply (published_of rows) (after own deed) deed.act deed.target) last answer (Ok (
        answer,
        Some
            deed,
      ))
      gives refl)) refl

  -- where its deed is refused, so is a new write
  pub fresh-stopped : (stop : Stop) (result : Result (Reply × List Change) Stop) → IsErrAnd result (λ one. one ≡ stop)
      → Answers {A = Deed} (Err stop) (deed_of (published_of rows) (own_of rows place) work)
      → Answers result (clerk_changes rows place ticket work Fresh)
  fresh-stopped stop result is answers =
      let write : Checked (Reply × Option Deed) = clerk_write_at (published_of rows) (own_of rows place) work Fresh in
      let refused : Answers {A = Reply × Option Deed} (Err stop) write = Answers-stopped
      (deed_of (published_of rows) (own_of rows place) work) replied stop (Err stop) refl answers in
      Answers-stopped write (told rows place ticket) stop result is refused

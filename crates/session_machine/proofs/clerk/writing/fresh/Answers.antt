use Rattle.std.proofs.Common.{◌≡◌, ◌∙◌, List, Ok, Err, ap, subst, sym}
use Rattle.desk_words.specs.declared.change.Change.{Change}
use Rattle.desk_words.specs.declared.rows.clerk.ClerkRow.{ClerkRow}
use Rattle.desk_words.specs.Tables.{Published, Rows, published_of, rows_of}
use Rattle.machine_core.specs.Checked.{Gives}
use Rattle.machine_core.specs.Kept.{kept_reply}
use Rattle.machine_core.specs.Machine.{deed_of}
use Rattle.machine_core.specs.Outcomes.{Answers}
use Rattle.machine_core.specs.Own.{Own, after, changes_of, own_of}
use Rattle.machine_core.specs.declared.deed.Deed.{Deed}
use Rattle.machine_core.specs.declared.ticket.Use.TheVariants.{Fresh}
use Rattle.session_machine.specs.Written.{clerk_changes}
use Rattle.session_machine.proofs.ClerkBooks.{kept-booked, target-first}
use Rattle.session_machine.proofs.ClerkDeeds.{deed_of-sound, told-deed}
use Rattle.session_machine.proofs.ClerkWrites.{fresh-gives, fresh-stopped}
use Rattle.session_machine.proofs.clerk.writing.fresh.Goals as goal

pub deed_of-requires-clause-own : goal.deed_of-requires-clause-own
deed_of-requires-clause-own c = record { place = c.args.place; within = c.requires.within; is = c.requires.own }

pub deed_reply-requires-clause-sound : goal.deed_reply-requires-clause-sound
deed_reply-requires-clause-sound c = deed_of-sound (rows_of c.args.tables.now) c.args.place c.args.own.now
    c.args.work.now c.in_ok-deed.deed c.requires.ready.valid c.requires.within c.requires.own c.in_ok-deed.ensures.answers

pub deed_reply-requires-clause-told : goal.deed_reply-requires-clause-told
deed_reply-requires-clause-told c = told-deed (published_of (rows_of c.args.tables.now)) c.args.own.now c.args.work.now
    c.in_ok-deed.deed c.in_ok-deed.ensures.answers

pub returns-in_err-deed-clause-answers : goal.returns-in_err-deed-clause-answers
returns-in_err-deed-clause-answers c =
    let rows : Rows = rows_of c.args.tables.now in
    let Stops : Own → Type 0 = λ own. Answers {A = Deed} (Err c.in_err-deed.field-0.0)
    (deed_of (published_of rows) own c.args.work.now) in
    fresh-stopped rows c.args.place c.args.ticket.now c.args.work.now c.in_err-deed.field-0.0 c.from_residual.result
    c.from_residual.ensures.1 (subst Stops c.requires.own c.in_err-deed.ensures.answers)

pub returns-clause-answers : goal.returns-clause-answers
returns-clause-answers c =
    let rows : Rows = rows_of c.args.tables.now in
    let published : Published = published_of rows in
    let deed : Deed = c.in_ok-deed.deed in
    let reply = c.in_ok-reply.reply in
    let Made : Own → Type 0 = λ own. Gives (deed_of published own c.args.work.now) (Ok deed) in
    let Kept : Own → Type 0 = λ own. Gives (kept_reply published (after own deed) deed.act deed.target) (Ok reply) in
    let row : c.row.result.now ≡ (own_of rows c.args.place).row = c.row.ensures ∙ ap (λ (own : Own). own.row)
    c.requires.own in
    let changes : c.in_ok-changes.changes ≡ changes_of c.args.place (own_of rows c.args.place).row c.args.ticket.now
    deed =
    c.in_ok-changes.ensures ∙ ap (λ (one : ClerkRow). changes_of c.args.place one c.args.ticket.now deed) row in
    let Told : List Change → Type 0 = λ list.
    Gives (clerk_changes rows c.args.place c.args.ticket.now c.args.work.now Fresh) (Ok (reply, list)) in
    subst Told (sym changes) (fresh-gives rows c.args.place c.args.ticket.now c.args.work.now deed reply
    (subst Made c.requires.own c.in_ok-deed.ensures.answers) (subst Kept c.requires.own c.in_ok-reply.ensures.reply))

pub returns-clause-booked : goal.returns-clause-booked
returns-clause-booked c = λ command.
    let rows : Rows = rows_of c.args.tables.now in
    let published : Published = published_of rows in
    let own : Own = c.args.own.now in
    let deed : Deed = c.in_ok-deed.deed in
    let held = c.deed_reply.new.workplace.shelf in
    let sound = deed_of-sound rows c.args.place own c.args.work.now deed c.requires.ready.valid c.requires.within
    c.requires.own c.in_ok-deed.ensures.answers in
    let told = told-deed published own c.args.work.now deed c.in_ok-deed.ensures.answers in
    let first = target-first published own deed held sound deed.act told c.in_ok-reply.ensures.first in
    kept-booked rows held (after own deed) sound.rows command deed.act deed.target c.in_ok-reply.reply first
    c.in_ok-reply.ensures.reply

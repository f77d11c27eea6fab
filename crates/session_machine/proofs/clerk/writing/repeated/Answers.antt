use Rattle.std.proofs.Common.{◌<◌, List, Ok, subst, sym}
use Rattle.desk_words.specs.declared.change.Change.{Change}
use Rattle.desk_words.specs.declared.rows.clerk.ClerkRow.{ClerkRow}
use Rattle.desk_words.specs.Tables.{Rows, published_of, rows_of}
use Rattle.machine_core.specs.Checked.{Gives}
use Rattle.machine_core.specs.Kept.{kept_reply}
use Rattle.machine_core.specs.Own.{IsOwn, Own}
use Rattle.machine_core.specs.OwnRows.{HasOwnTarget}
use Rattle.machine_core.specs.declared.ticket.Use.TheVariants.{Repeated}
use Rattle.session_machine.specs.Written.{clerk_changes}
use Rattle.machine_views.proofs.Keeping.{own-rows}
use Rattle.session_machine.proofs.ClerkBooks.{kept-booked}
use Rattle.session_machine.proofs.ClerkOwn.{last-target}
use Rattle.session_machine.proofs.ClerkWrites.{repeated-gives}
use Rattle.session_machine.proofs.clerk.writing.repeated.Goals as goal

pub kept_reply-requires-clause-own : goal.kept_reply-requires-clause-own
kept_reply-requires-clause-own c = record { place = c.args.place; within = c.requires.within; is = c.requires.own }

pub kept_reply-requires-clause-target : goal.kept_reply-requires-clause-target
kept_reply-requires-clause-target c =
    let rows : Rows = rows_of c.args.tables.now in
    let Started : Own → Type 0 = λ own. 0 < own.row.last in
    let Last : Own → Type 0 = λ own. HasOwnTarget own own.row.act own.row.target in
    let OfRow : ClerkRow → Type 0 = λ row. HasOwnTarget c.args.own.now row.act row.target in
    subst OfRow (sym c.row-row.ensures) (subst Last (sym c.requires.own)
    (last-target rows c.args.place c.requires.ready.valid c.requires.within c.requires.place
    (subst Started c.requires.own c.requires.started)))

pub returns-clause-answers : goal.returns-clause-answers
returns-clause-answers c = λ ticket work.
    let rows : Rows = rows_of c.args.tables.now in
    let reply = c.in_ok-reply.reply in
    let OfRow : ClerkRow → Type 0 = λ row.
    Gives (kept_reply (published_of rows) c.args.own.now row.act row.target) (Ok reply) in
    let Last : Own → Type 0 = λ own. Gives (kept_reply (published_of rows) own own.row.act own.row.target) (Ok reply) in
    let Told : List Change → Type 0 = λ list.
    Gives (clerk_changes rows c.args.place ticket work Repeated) (Ok (reply, list)) in
    subst Told (sym c.new.ensures) (repeated-gives rows c.args.place ticket work reply
    (subst Last c.requires.own (subst OfRow c.row-row.ensures c.in_ok-reply.ensures.reply)))

pub returns-clause-booked : goal.returns-clause-booked
returns-clause-booked c = λ command.
    let rows : Rows = rows_of c.args.tables.now in
    let own : Own = c.args.own.now in
    let row : ClerkRow = c.row-row.result.now in
    let is : IsOwn rows own = record { place = c.args.place; within = c.requires.within; is = c.requires.own } in
    kept-booked rows c.kept_reply.new.workplace.shelf own (own-rows rows own c.requires.ready.valid is) command row.act row.target
    c.in_ok-reply.reply c.in_ok-reply.ensures.first c.in_ok-reply.ensures.reply

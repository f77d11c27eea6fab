use Rattle.std.proofs.Common.{◌≡◌, List, [], Ok, subst, sym}
use Rattle.desk_words.specs.declared.change.Change.{Change}
use Rattle.desk_words.specs.declared.command.Command.TheVariants.{Desk}
use Rattle.desk_words.specs.Tables.{Rows, rows_of}
use Rattle.desk_valid.specs.Tallies.{master_cells}
use Rattle.machine_core.specs.Checked.{Gives}
use Rattle.machine_core.specs.Machine.{machine}
use Rattle.machine_core.specs.Outcomes.{Answers}
use Rattle.machine_workplace.specs.Ready.{IsReady}
use Rattle.session_machine.specs.Booked.{IsBooked}
use Rattle.session_machine.proofs.DeskLooks.{desk-booked, desk-gives, desk-stopped}
use Rattle.session_machine.proofs.desk_look.desk_look.Goals as goal

pub desk_reply-requires-clause-cells : goal.desk_reply-requires-clause-cells
desk_reply-requires-clause-cells c =
    let Counted : Rows → Type 0 = λ rows. c.master_cells-cells.result ≡ master_cells rows.masters in
    subst Counted (sym c.tables-tables.ensures.tables) c.master_cells-cells.ensures.cells

pub desk_reply-requires-clause-ready : goal.desk_reply-requires-clause-ready
desk_reply-requires-clause-ready c =
    let Ready : Rows → Type 0 = λ rows. IsReady rows c.args.workplace.now in
    subst Ready (sym c.tables-tables.ensures.tables) c.requires.ready

pub returns-in_err-reply-clause-answers : goal.returns-in_err-reply-clause-answers
returns-in_err-reply-clause-answers c =
    let result = c.from_residual.result in
    let stop = c.in_err-reply.field-0.0 in
    let Told : Rows → Type 0 = λ rows. Answers result (machine rows (Desk c.args.look.now)) in
    subst Told c.tables-tables.ensures.tables (desk-stopped (rows_of c.tables-tables.result.now) c.args.look.now stop
    result c.from_residual.ensures.1 c.in_err-reply.ensures.answers)

pub returns-clause-answers : goal.returns-clause-answers
returns-clause-answers c =
    let rows : Rows = rows_of c.tables-tables.result.now in
    let reply = c.in_ok-reply.reply in
    let gives = desk-gives rows c.args.look.now reply c.in_ok-reply.ensures.answers in
    let Told : Rows → Type 0 = λ one. Gives (machine one (Desk c.args.look.now)) (Ok (reply, [])) in
    let Listed : List Change → Type 0 = λ list.
    Gives (machine c.args.totalled.now (Desk c.args.look.now)) (Ok (reply, list)) in
    subst Listed (sym c.new.ensures) (subst Told c.tables-tables.ensures.tables gives)

pub returns-clause-booked : goal.returns-clause-booked
returns-clause-booked c =
    let reply = c.in_ok-reply.reply in
    let held = c.desk_reply.new.workplace.shelf in
    let Booked : Rows → Type 0 = λ rows. IsBooked rows (Desk c.args.look.now) reply held in
    subst Booked c.tables-tables.ensures.tables (desk-booked (rows_of c.tables-tables.result.now) c.args.look.now reply
    held c.in_ok-reply.ensures.answers)

pub returns-in_err-reply-clause-ready : goal.returns-in_err-reply-clause-ready
returns-in_err-reply-clause-ready c =
    let Ready : Rows → Type 0 = λ rows. IsReady rows c.desk_reply.new.workplace in
    subst Ready c.tables-tables.ensures.tables c.in_err-reply.ensures.ready

pub returns-clause-ready : goal.returns-clause-ready
returns-clause-ready c =
    let Ready : Rows → Type 0 = λ rows. IsReady rows c.desk_reply.new.workplace in
    subst Ready c.tables-tables.ensures.tables c.in_ok-reply.ensures.ready

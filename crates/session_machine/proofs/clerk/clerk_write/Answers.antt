use Rattle.std.proofs.Common.{◌≡◌, ◌∙◌, ◌<◌, ap, arith, length, subst, sym, Ok}
use Rattle.std.specs.Prelude.{IfOk}
use Rattle.desk_words.specs.declared.command.Command.{Command}
use Rattle.desk_words.specs.declared.command.Command.TheVariants.{Clerk}
use Rattle.desk_words.specs.declared.rows.clerk.ClerkRow.{ClerkRow}
use Rattle.desk_words.specs.Tables.{Rows, rows_of}
use Rattle.desk_valid.specs.Valid.{AreValid}
use Rattle.machine_core.specs.Checked.{IsFound, told}
use Rattle.machine_core.specs.Machine.{machine}
use Rattle.machine_core.specs.Outcomes.{Answers}
use Rattle.machine_core.specs.Own.{Own, own_of}
use Rattle.machine_core.specs.Ticket.{use_of}
use Rattle.machine_core.specs.declared.ticket.Use.{Use}
use Rattle.machine_core.specs.declared.ticket.Use.TheVariants.{Fresh, Repeated}
use Rattle.machine_workplace.specs.Ready.{IsReady}
use Rattle.session_machine.specs.Booked.{IsBooked}
use Rattle.session_machine.proofs.ClerkOwn.{own-row, own-there}
use Rattle.session_machine.proofs.ClerkWrites.{write-stopped, write-told, write-unnamed}
use Rattle.session_machine.proofs.Stewards.{use-again}
use Rattle.session_machine.proofs.clerk.clerk_write.Goals as goal

pub clerk_of-requires : goal.clerk_of-requires
clerk_of-requires c = subst AreValid (sym c.tables-tables.ensures.tables) c.requires.ready.valid

pub own_at-own-requires : goal.own_at-own-requires
own_at-own-requires c =
    omega (arith, c.in_ok-place.ensures.within, ap (λ (rows : Rows). length rows.clerks) c.tables-tables.ensures.tables)

pub use_of-requires : goal.use_of-requires
use_of-requires c =
    let rows : Rows = c.args.totalled.now in
    let place = c.in_ok-place.place in
    let within : place < length rows.clerks = omega (
      arith,
      c.in_ok-place.ensures.within,
      ap (λ (one : Rows). length one.clerks) c.tables-tables.ensures.tables,
    ) in
    let row : c.row.result.now ≡ (own_of rows place).row = c.row.ensures ∙ ap (λ (own : Own). own.row)
    c.own_at-own.ensures in
    omega (arith, ap (λ (one : ClerkRow). one.last) row, (own-row rows place c.requires.ready.valid within).number)

pub repeated-requires-clause-ready : goal.repeated-requires-clause-ready
repeated-requires-clause-ready c =
    let Ready : Rows → Type 0 = λ rows. IsReady rows c.args.workplace.now in
    subst Ready (sym c.tables-tables.ensures.tables) c.requires.ready

pub repeated-requires-clause-own : goal.repeated-requires-clause-own
repeated-requires-clause-own c = own-there c.args.totalled.now (rows_of c.tables-tables.result.now)
    c.tables-tables.ensures.tables c.in_ok-place.place c.own_at-own.result c.own_at-own.ensures

pub repeated-requires-clause-started : goal.repeated-requires-clause-started
repeated-requires-clause-started c =
    let turn : IsFound (use_of c.row.result.now c.args.ticket.now) Repeated =
    c.in_ok-used.ensures.finds ∙ ap (λ (used : Use). told (Ok used)) c.in-Repeated.is in
    omega (
      arith,
      use-again c.row.result.now c.args.ticket.now turn,
      ap (λ (row : ClerkRow). row.last) c.row.ensures,
      c.requires.numbered,
    )

pub fresh-requires-clause-ready : goal.fresh-requires-clause-ready
fresh-requires-clause-ready c =
    let Ready : Rows → Type 0 = λ rows. IsReady rows c.args.workplace.now in
    subst Ready (sym c.tables-tables.ensures.tables) c.requires.ready

pub fresh-requires-clause-own : goal.fresh-requires-clause-own
fresh-requires-clause-own c = own-there c.args.totalled.now (rows_of c.tables-tables.result.now)
    c.tables-tables.ensures.tables c.in_ok-place.place c.own_at-own.result c.own_at-own.ensures

pub returns-in_err-place-clause-answers : goal.returns-in_err-place-clause-answers
returns-in_err-place-clause-answers c =
    let result = c.from_residual.result in
    let Told : Rows → Type 0 = λ rows. Answers result (machine rows (Clerk c.args.name.now c.args.ticket.now
    c.args.work.now)) in
    subst Told c.tables-tables.ensures.tables (write-unnamed (rows_of c.tables-tables.result.now) c.args.name.now
    c.args.ticket.now c.args.work.now c.in_err-place.field-0.0 result c.from_residual.ensures.1
    c.in_err-place.ensures.finds)

pub returns-in_err-used-clause-answers : goal.returns-in_err-used-clause-answers
returns-in_err-used-clause-answers c = write-stopped c.args.totalled.now (rows_of c.tables-tables.result.now)
    c.tables-tables.ensures.tables c.in_ok-place.place c.own_at-own.result c.own_at-own.ensures c.row.result.now
    c.row.ensures c.args.name.now c.args.ticket.now c.args.work.now c.from_residual-in_err-used.result
    c.in_ok-place.ensures.finds c.in_err-used.field-0.0 c.from_residual-in_err-used.ensures.1
    c.in_err-used.ensures.finds

pub returns-in-Repeated-clause-answers : goal.returns-in-Repeated-clause-answers
returns-in-Repeated-clause-answers c = write-told c.args.totalled.now (rows_of c.tables-tables.result.now)
    c.tables-tables.ensures.tables c.in_ok-place.place c.own_at-own.result c.own_at-own.ensures c.row.result.now
    c.row.ensures c.args.name.now c.args.ticket.now c.args.work.now c.repeated.result c.in_ok-place.ensures.finds
    Repeated (c.in_ok-used.ensures.finds ∙ ap (λ (used : Use). told (Ok used)) c.in-Repeated.is)
    (c.repeated.ensures.answers c.args.ticket.now c.args.work.now)

pub returns-in-Fresh-clause-answers : goal.returns-in-Fresh-clause-answers
returns-in-Fresh-clause-answers c = write-told c.args.totalled.now (rows_of c.tables-tables.result.now)
    c.tables-tables.ensures.tables c.in_ok-place.place c.own_at-own.result c.own_at-own.ensures c.row.result.now
    c.row.ensures c.args.name.now c.args.ticket.now c.args.work.now c.fresh.result c.in_ok-place.ensures.finds
    Fresh (c.in_ok-used.ensures.finds ∙ ap (λ (used : Use). told (Ok used)) c.in-Fresh.is) c.fresh.ensures.answers

pub returns-in-Repeated-clause-ready : goal.returns-in-Repeated-clause-ready
returns-in-Repeated-clause-ready c =
    let Ready : Rows → Type 0 = λ rows. IsReady rows c.repeated.new.workplace in
    subst Ready c.tables-tables.ensures.tables c.repeated.ensures.ready

pub returns-in-Fresh-clause-ready : goal.returns-in-Fresh-clause-ready
returns-in-Fresh-clause-ready c =
    let Ready : Rows → Type 0 = λ rows. IsReady rows c.fresh.new.workplace in
    subst Ready c.tables-tables.ensures.tables c.fresh.ensures.ready

pub returns-in-Repeated-clause-booked : goal.returns-in-Repeated-clause-booked
returns-in-Repeated-clause-booked c =
    let command : Command = Clerk c.args.name.now c.args.ticket.now c.args.work.now in
    let held = c.repeated.new.workplace.shelf in
    let Booked : Rows → Type 0 = λ rows. IfOk c.repeated.result (λ made. IsBooked rows command made.0 held) in
    subst Booked c.tables-tables.ensures.tables (c.repeated.ensures.booked command)

pub returns-in-Fresh-clause-booked : goal.returns-in-Fresh-clause-booked
returns-in-Fresh-clause-booked c =
    let command : Command = Clerk c.args.name.now c.args.ticket.now c.args.work.now in
    let held = c.fresh.new.workplace.shelf in
    let Booked : Rows → Type 0 = λ rows. IfOk c.fresh.result (λ made. IsBooked rows command made.0 held) in
    subst Booked c.tables-tables.ensures.tables (c.fresh.ensures.booked command)

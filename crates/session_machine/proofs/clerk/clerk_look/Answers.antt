use Rattle.std.proofs.Common.{List, [], Ok, Err, refl, ap, arith, length, subst, sym}
use Rattle.desk_words.specs.declared.change.Change.{Change}
use Rattle.desk_words.specs.declared.command.Command.TheVariants.{Look}
use Rattle.desk_words.specs.declared.reply.Reply.{Reply}
use Rattle.desk_words.specs.Tables.{Rows, published_of, rows_of}
use Rattle.desk_valid.specs.Valid.{AreValid}
use Rattle.machine_core.specs.Checked.{Gives}
use Rattle.machine_core.specs.Look.{look_reply}
use Rattle.machine_core.specs.Machine.{machine}
use Rattle.machine_core.specs.Outcomes.{Answers}
use Rattle.machine_core.specs.Own.{IsOwn, Own, own_of}
use Rattle.machine_views.proofs.Keeping.{own-rows}
use Rattle.machine_workplace.specs.Ready.{IsReady}
use Rattle.session_machine.specs.Booked.{IsBooked}
use Rattle.machine_views.specs.Looking.{IsLookFirst}
use Rattle.session_machine.proofs.ClerkBooks.{look-booked}
use Rattle.session_machine.proofs.ClerkOwn.{own-there}
use Rattle.session_machine.proofs.ClerkLooks.{look-gives, look-stopped, look-unnamed}
use Rattle.session_machine.proofs.clerk.clerk_look.Goals as goal

pub clerk_of-requires : goal.clerk_of-requires
clerk_of-requires c = subst AreValid (sym c.tables-tables.ensures.tables) c.requires.ready.valid

pub own_at-own-requires : goal.own_at-own-requires
own_at-own-requires c =
    omega (arith, c.in_ok-place.ensures.within, ap (λ (rows : Rows). length rows.clerks) c.tables-tables.ensures.tables)

pub look_reply-requires-clause-ready : goal.look_reply-requires-clause-ready
look_reply-requires-clause-ready c =
    let Ready : Rows → Type 0 = λ rows. IsReady rows c.args.workplace.now in
    subst Ready (sym c.tables-tables.ensures.tables) c.requires.ready

pub look_reply-requires-clause-own : goal.look_reply-requires-clause-own
look_reply-requires-clause-own c = record {
  place = c.in_ok-place.place;
  within = c.in_ok-place.ensures.within;
  is = own-there c.args.totalled.now (rows_of c.tables-tables.result.now) c.tables-tables.ensures.tables
      c.in_ok-place.place c.own_at-own.result c.own_at-own.ensures;
}

pub returns-in_err-place-clause-answers : goal.returns-in_err-place-clause-answers
returns-in_err-place-clause-answers c =
    let result = c.from_residual.result in
    let Told : Rows → Type 0 = λ rows. Answers result (machine rows (Look c.args.name.now c.args.look.now)) in
    subst Told c.tables-tables.ensures.tables (look-unnamed (rows_of c.tables-tables.result.now) c.args.name.now
    c.args.look.now c.in_err-place.field-0.0 result c.from_residual.ensures.1 c.in_err-place.ensures.finds)

pub returns-in_err-reply-clause-answers : goal.returns-in_err-reply-clause-answers
returns-in_err-reply-clause-answers c =
    let result = c.from_residual-in_err-reply.result in
    let rows : Rows = rows_of c.tables-tables.result.now in
    let place = c.in_ok-place.place in
    let stop = c.in_err-reply.field-0.0 in
    let own = own-there c.args.totalled.now rows c.tables-tables.ensures.tables place c.own_at-own.result
    c.own_at-own.ensures in
    let Stops : Own → Type 0 = λ one. Answers {A = Reply} (Err stop) (look_reply (published_of rows) one
    c.args.look.now) in
    let Told : Rows → Type 0 = λ one. Answers result (machine one (Look c.args.name.now c.args.look.now)) in
    subst Told c.tables-tables.ensures.tables (look-stopped rows c.args.name.now c.args.look.now place stop result
    c.in_ok-place.ensures.finds c.from_residual-in_err-reply.ensures.1 (subst Stops own c.in_err-reply.ensures.answers))

pub returns-clause-answers : goal.returns-clause-answers
returns-clause-answers c =
    let rows : Rows = rows_of c.tables-tables.result.now in
    let place = c.in_ok-place.place in
    let reply = c.in_ok-reply.reply in
    let own = own-there c.args.totalled.now rows c.tables-tables.ensures.tables place c.own_at-own.result
    c.own_at-own.ensures in
    let Shown : Own → Type 0 = λ one. Gives (look_reply (published_of rows) one c.args.look.now) (Ok reply) in
    let gives = look-gives rows c.args.name.now c.args.look.now place reply c.in_ok-place.ensures.finds
    (subst Shown own c.in_ok-reply.ensures.answers) in
    let Told : Rows → Type 0 = λ one. Gives (machine one (Look c.args.name.now c.args.look.now)) (Ok (reply, [])) in
    let Listed : List Change → Type 0 = λ list.
    Gives (machine c.args.totalled.now (Look c.args.name.now c.args.look.now)) (Ok (reply, list)) in
    subst Listed (sym c.new.ensures) (subst Told c.tables-tables.ensures.tables gives)

pub returns-in_err-reply-clause-ready : goal.returns-in_err-reply-clause-ready
returns-in_err-reply-clause-ready c =
    let Ready : Rows → Type 0 = λ rows. IsReady rows c.look_reply.new.workplace in
    subst Ready c.tables-tables.ensures.tables c.in_err-reply.ensures.ready

pub returns-clause-ready : goal.returns-clause-ready
returns-clause-ready c =
    let Ready : Rows → Type 0 = λ rows. IsReady rows c.look_reply.new.workplace in
    subst Ready c.tables-tables.ensures.tables c.in_ok-reply.ensures.ready

pub returns-clause-booked : goal.returns-clause-booked
returns-clause-booked c =
    let rows : Rows = rows_of c.tables-tables.result.now in
    let place = c.in_ok-place.place in
    let reply = c.in_ok-reply.reply in
    let held = c.look_reply.new.workplace.shelf in
    let own = own-there c.args.totalled.now rows c.tables-tables.ensures.tables place c.own_at-own.result
    c.own_at-own.ensures in
    let valid : AreValid rows = subst AreValid (sym c.tables-tables.ensures.tables) c.requires.ready.valid in
    let within = c.in_ok-place.ensures.within in
    let is : IsOwn rows (own_of rows place) = record { place = place; within = within; is = refl } in
    let Shown : Own → Type 0 = λ one. Gives (look_reply (published_of rows) one c.args.look.now) (Ok reply) in
    let First : Own → Type 0 = λ one. IsLookFirst one.sessions c.args.look.now held in
    let Booked : Rows → Type 0 = λ one. IsBooked one (Look c.args.name.now c.args.look.now) reply held in
    subst Booked c.tables-tables.ensures.tables (look-booked rows held c.args.name.now place c.in_ok-place.ensures.finds
    (own_of rows place) refl (own-rows rows (own_of rows place) valid is) c.args.look.now
    (subst First own c.in_ok-reply.ensures.first) reply (subst Shown own c.in_ok-reply.ensures.answers))

use Rattle.std.proofs.Common.{◌≡◌, ◌∙◌, Err, ap, arith, subst, sym, Ok}
use Rattle.std.specs.Prelude.{IfOk}
use Rattle.desk_words.specs.declared.command.Command.TheVariants.{Steward}
use Rattle.desk_words.specs.declared.reply.Reply.TheVariants.{Made}
use Rattle.desk_words.specs.declared.rows.clerk.ClerkRow.{ClerkRow}
use Rattle.desk_words.specs.Tables.{Rows, rows_of}
use Rattle.machine_core.specs.Checked.{IsFound, run, told}
use Rattle.machine_core.specs.Machine.{machine, making_changes, steward_write}
use Rattle.machine_core.specs.Outcomes.{Answers, Finds}
use Rattle.machine_core.specs.Own.{own_of}
use Rattle.machine_core.specs.Ticket.{use_of}
use Rattle.machine_core.specs.declared.ticket.Use.{Use}
use Rattle.machine_core.specs.declared.ticket.Use.TheVariants.{Fresh, Repeated}
use Rattle.session_machine.specs.Booked.{IsBooked}
use Rattle.session_machine.proofs.Stewards.{fresh-given, fresh-stopped, steward-row, use-again, write-timely}
use Rattle.session_machine.proofs.Stewards.{write-untimely}
use Rattle.session_machine.proofs.steward.steward_write.Goals as goal
use Rattle.machine_core.proofs.Answering.{Answers-same}

pub use_of-requires : goal.use_of-requires
use_of-requires c =
    let rows : Rows = c.args.totalled.now in
    let row : c.steward_of-row.result.now ≡ (own_of rows 0).row =
    c.steward_of-row.ensures ∙ ap (λ (one : Rows). (own_of one 0).row) c.tables-tables.ensures.tables in
    omega (arith, ap (λ (one : ClerkRow). one.last) row, (steward-row rows c.requires.ready.valid).number)

pub repeated-requires-clause-started : goal.repeated-requires-clause-started
repeated-requires-clause-started c =
    let turn : IsFound (use_of c.steward_of-row.result.now c.args.ticket.now) Repeated =
    c.in_ok-use_of.ensures.finds ∙ ap (λ (used : Use). told (Ok used)) c.in-Repeated.is in
    omega (
      arith,
      use-again c.steward_of-row.result.now c.args.ticket.now turn,
      ap (λ (row : ClerkRow). row.last) c.steward_of-row.ensures,
      c.requires.numbered,
    )

pub returns-in_err-use_of-clause-answers : goal.returns-in_err-use_of-clause-answers
returns-in_err-use_of-clause-answers c =
    let rows : Rows = c.args.totalled.now in
    let stop = c.in_err-use_of.field-0.0 in
    let row : c.steward_of-row.result.now ≡ (own_of rows 0).row =
    c.steward_of-row.ensures ∙ ap (λ (one : Rows). (own_of one 0).row) c.tables-tables.ensures.tables in
    let Stops : ClerkRow → Type 0 = λ one. Finds {A = Use} (Err stop) (use_of one c.args.ticket.now) in
    write-untimely rows c.args.ticket.now c.args.work.now stop c.from_residual.result c.from_residual.ensures.1
    (subst Stops row c.in_err-use_of.ensures.finds)

pub returns-in-Repeated-clause-answers : goal.returns-in-Repeated-clause-answers
returns-in-Repeated-clause-answers c =
    let result = c.repeated.result in
    let rows : Rows = rows_of c.tables-tables.result.now in
    let row : (own_of rows 0).row ≡ c.steward_of-row.result.now = sym c.steward_of-row.ensures in
    let turn : IsFound (use_of (own_of rows 0).row c.args.ticket.now) Repeated =
    ap (λ (one : ClerkRow). run (use_of one c.args.ticket.now)) row ∙ c.in_ok-use_of.ensures.finds
    ∙ ap (λ (used : Use). told (Ok used)) c.in-Repeated.is in
    let Told : Rows → Type 0 = λ one. Answers result (machine one (Steward c.args.ticket.now c.args.work.now)) in
    subst Told c.tables-tables.ensures.tables (Answers-same
    (steward_write rows c.args.ticket.now c.args.work.now Repeated) (machine rows (Steward c.args.ticket.now
    c.args.work.now)) result (sym (write-timely rows c.args.ticket.now c.args.work.now Repeated turn))
    (c.repeated.ensures.answers c.args.ticket.now c.args.work.now))

pub returns-in-Repeated-clause-booked : goal.returns-in-Repeated-clause-booked
returns-in-Repeated-clause-booked c =
    let command = Steward c.args.ticket.now c.args.work.now in
    let Booked : Rows → Type 0 = λ rows.
    IfOk c.repeated.result (λ made. IsBooked rows command made.0 c.repeated.new.workplace.shelf) in
    subst Booked c.tables-tables.ensures.tables (c.repeated.ensures.booked command)

pub returns-in_err-made-in-Fresh-clause-answers : goal.returns-in_err-made-in-Fresh-clause-answers
returns-in_err-made-in-Fresh-clause-answers c =
    let rows : Rows = c.args.totalled.now in
    let row : (own_of rows 0).row ≡ c.steward_of-row.result.now =
    sym (c.steward_of-row.ensures ∙ ap (λ (one : Rows). (own_of one 0).row) c.tables-tables.ensures.tables) in
    let turn : IsFound (use_of (own_of rows 0).row c.args.ticket.now) Fresh =
    ap (λ (one : ClerkRow). run (use_of one c.args.ticket.now)) row ∙ c.in_ok-use_of.ensures.finds
    ∙ ap (λ (used : Use). told (Ok used)) c.in-Fresh.is in
    let result = c.from_residual-in_err-made-in-Fresh.result in
    Answers-same (steward_write rows c.args.ticket.now c.args.work.now Fresh) (machine rows (Steward c.args.ticket.now
    c.args.work.now)) result (sym (write-timely rows c.args.ticket.now c.args.work.now Fresh turn))
    (fresh-stopped rows c.args.ticket.now c.args.work.now c.in_err-made-in-Fresh.field-0.0 result
    c.from_residual-in_err-made-in-Fresh.ensures.1 c.in_err-made-in-Fresh.ensures.answers)

pub returns-in_ok-changes-in-Fresh-clause-answers : goal.returns-in_ok-changes-in-Fresh-clause-answers
returns-in_ok-changes-in-Fresh-clause-answers c =
    let rows : Rows = c.args.totalled.now in
    let making = c.in_ok-made-in-Fresh.making in
    let row : c.steward_of-row.result.now ≡ (own_of rows 0).row =
    c.steward_of-row.ensures ∙ ap (λ (one : Rows). (own_of one 0).row) c.tables-tables.ensures.tables in
    let turn : IsFound (use_of (own_of rows 0).row c.args.ticket.now) Fresh =
    ap (λ (one : ClerkRow). run (use_of one c.args.ticket.now)) (sym row) ∙ c.in_ok-use_of.ensures.finds
    ∙ ap (λ (used : Use). told (Ok used)) c.in-Fresh.is in
    let changes = c.in_ok-changes-in-Fresh.ensures
    ∙ ap (λ (one : ClerkRow). making_changes one c.args.ticket.now making) row in
    Answers-same (steward_write rows c.args.ticket.now c.args.work.now Fresh) (machine rows (Steward c.args.ticket.now
    c.args.work.now)) (Ok (Made c.in_ok-made-in-Fresh.made, c.in_ok-changes-in-Fresh.changes))
    (sym (write-timely rows c.args.ticket.now c.args.work.now Fresh turn))
    (fresh-given rows c.args.ticket.now c.args.work.now c.in_ok-made-in-Fresh.made making c.in_ok-changes-in-Fresh.changes
    c.in_ok-made-in-Fresh.ensures.answers changes)

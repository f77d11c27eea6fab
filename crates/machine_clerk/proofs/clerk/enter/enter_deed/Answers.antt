use Rattle.std.proofs.Common.{◌∙◌, Ok, ap, length, sym}
use Rattle.desk_words.specs.declared.rows.act.Act.TheVariants as act
use Rattle.desk_words.specs.declared.rows.session.SessionRow.{SessionRow}
use Rattle.desk_words.specs.Tables.{published_of, rows_of}
use Rattle.machine_core.specs.Checked.{and_then, done, told}
use Rattle.machine_core.specs.Clerk.Enter.{enter_row}
use Rattle.machine_core.specs.Own.{puts}
use Rattle.machine_core.proofs.Stopping.{Finds-stopped}
use Rattle.machine_clerk.proofs.clerk.enter.enter_deed.Goals as goal

pub returns-in_err-session-clause-finds : goal.returns-in_err-session-clause-finds
returns-in_err-session-clause-finds c =
    let entered = rw (c.as_slice-cells.ensures, c.as_slice-confirmed.ensures) at c.in_err-session.ensures.finds in
    Finds-stopped (enter_row (published_of (rows_of c.args.tables.now)) c.args.own.now c.args.edition.now
    c.args.cells.now c.args.confirmed.now) (λ session. done (puts (length c.args.own.now.sessions) session act.Opened))
    c.in_err-session.field-0.0 c.from_residual.result c.from_residual.ensures.1 entered

pub returns-clause-finds : goal.returns-clause-finds
returns-clause-finds c =
    let entered = rw (c.as_slice-cells.ensures, c.as_slice-confirmed.ensures) at c.in_ok-session.ensures.finds in
    let put = rw c.sessions.ensures at c.in_ok-puts.ensures in
    ap (λ one. and_then one (λ (session : SessionRow).
    told (Ok (puts (length c.args.own.now.sessions) session act.Opened)))) entered
    ∙ ap (λ deed. told (Ok deed)) (sym put)

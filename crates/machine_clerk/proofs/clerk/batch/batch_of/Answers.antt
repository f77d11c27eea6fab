use Rattle.std.proofs.Common.{◌∙◌, ◌+◌, length, refl}
use Rattle.machine_core.proofs.Stopping.{EndsWith-stopped}
use Rattle.machine_clerk.proofs.Placed.{bytes-sessions, few-sessions, narrow-sessions}
use Rattle.machine_clerk.proofs.clerk.batch.batch_of.Goals as goal

pub typed_bytes-requires-clause-few : goal.typed_bytes-requires-clause-few
typed_bytes-requires-clause-few c =
    let sessions = rw (c.sessions.ensures, c.batches.ensures) at c.in_ok-sessions.ensures.sessions in
    few-sessions c.args.heading.now.edition c.args.heading.now.width (length c.args.own.now.batches + 1)
    (length c.args.own.now.sessions) c.args.heading.now.columns.now c.args.grid.now.rows (c.as_slice.ensures ∙ sessions)
    c.requires.few

pub typed_bytes-requires-clause-narrow : goal.typed_bytes-requires-clause-narrow
typed_bytes-requires-clause-narrow c =
    let sessions = rw (c.sessions.ensures, c.batches.ensures) at c.in_ok-sessions.ensures.sessions in
    narrow-sessions c.args.heading.now.edition c.args.heading.now.width (length c.args.own.now.batches + 1)
    (length c.args.own.now.sessions) c.args.heading.now.columns.now c.args.grid.now.rows (c.as_slice.ensures ∙ sessions)
    c.requires.heading.narrow

pub returns-in_err-within_bytes : goal.returns-in_err-within_bytes
returns-in_err-within_bytes c =
    let sessions = rw (c.sessions.ensures, c.batches.ensures) at c.in_ok-sessions.ensures.sessions in
    let typed = c.typed_bytes.ensures ∙ bytes-sessions c.args.heading.now.edition c.args.heading.now.width
    (length c.args.own.now.batches + 1) (length c.args.own.now.sessions) c.args.heading.now.columns.now
    c.args.grid.now.rows (c.as_slice.ensures ∙ sessions) in
    let bytes = rw typed at c.in_err-within_bytes.ensures.finds in
    EndsWith-stopped _ _ c.in_err-within_bytes.field-0.0 c.from_residual-in_err-within_bytes.result
    c.from_residual-in_err-within_bytes.ensures.1 bytes

pub returns : goal.returns
returns c =
    let sessions = rw (c.sessions.ensures, c.batches.ensures) at c.in_ok-sessions.ensures.sessions in
    let typed = c.typed_bytes.ensures ∙ bytes-sessions c.args.heading.now.edition c.args.heading.now.width
    (length c.args.own.now.batches + 1) (length c.args.own.now.sessions) c.args.heading.now.columns.now
    c.args.grid.now.rows (c.as_slice.ensures ∙ sessions) in
    let bytes = rw typed at c.in_ok-within_bytes.ensures.finds in
    rw (bytes, sessions, c.sessions.ensures, c.batches.ensures, c.rows.ensures.rows) refl

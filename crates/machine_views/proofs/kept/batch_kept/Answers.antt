use Rattle.std.proofs.Common.{◌≡◌, Some, get_or}
use Rattle.std.specs.Prelude.{slice_get}
use Rattle.std.proofs.lemmas.Option.{slice_get-get_or}
use Rattle.desk_words.specs.declared.rows.batch.BatchRow.{BatchRow}
use Rattle.desk_words.specs.Tables.{published_of, rows_of}
use Rattle.machine_core.specs.Sessions.{IsSessionOf}
use Rattle.machine_views.proofs.Keeping.{All-part, batched-given, own-rows, sessions-stand}
use Rattle.machine_views.proofs.kept.batch_kept.Goals as goal

pub session_verdicts-requires-clause-sessions : goal.session_verdicts-requires-clause-sessions
session_verdicts-requires-clause-sessions c =
    let published = published_of (rows_of c.args.tables.now) in
    let own = c.args.own.now in
    let are = own-rows (rows_of c.args.tables.now) own c.requires.ready.valid c.requires.own in
    let part = rw c.sessions.ensures at c.sessions_in-sessions.ensures.sessions in
    All-part (IsSessionOf published) own.sessions c.sessions_in-sessions.result.now _ _ part
    (sessions-stand published own are)

pub returns-clause-batch : goal.returns-clause-batch
returns-clause-batch c =
    let published = published_of (rows_of c.args.tables.now) in
    let own = c.args.own.now in
    let none : BatchRow = record { edition = 0; first = 0; count = 0 } in
    let row : BatchRow = get_or own.batches c.args.place none in
    let stands : slice_get own.batches c.args.place ≡ Some row =
    slice_get-get_or own.batches c.args.place none c.requires.place in
    let counted = rw (c.sessions_in-sessions.ensures.sessions, c.batches.ensures, c.sessions.ensures) at
    c.in_ok-verdicts.ensures.verdicts in
    let told = rw c.batches.ensures at c.batched.ensures in
    rw told (batched-given published own c.args.place row c.in_ok-verdicts.verdicts stands counted)

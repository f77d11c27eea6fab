use Rattle.std.proofs.Common.{◌+◌, Ok}
use Rattle.std.proofs.lemmas.Result.{IfOk-weaker}
use Rattle.desk_words.specs.Tables.{published_of, rows_of}
use Rattle.machine_core.specs.Checked.{Gives}
use Rattle.machine_core.specs.Look.View.{view_at}
use Rattle.machine_core.specs.Views.{view_of}
use Rattle.machine_core.proofs.ReadRows.{row-stands}
use Rattle.machine_views.proofs.Keeping.{own-rows, session-stands, session_at-place, view_at-given}
use Rattle.machine_views.proofs.kept.view_kept.Goals as goal

pub view_of-requires-clause-session : goal.view_of-requires-clause-session
view_of-requires-clause-session c =
    session-stands (published_of (rows_of c.args.tables.now)) c.args.own.now
    (own-rows (rows_of c.args.tables.now) c.args.own.now c.requires.ready.valid c.requires.own) c.args.place
    c.index-sessions-place.result (row-stands c.sessions.ensures c.requires.place c.index-sessions-place.is)

pub returns-clause-view : goal.returns-clause-view
returns-clause-view c =
    let published = published_of (rows_of c.args.tables.now) in
    let own = c.args.own.now in
    let session = c.index-sessions-place.result in
    let stands = row-stands c.sessions.ensures c.requires.place c.index-sessions-place.is in
    IfOk-weaker c.view_of.result (λ view. Gives (view_of published (c.args.place + 1) session) (Ok view))
    (λ view. Gives (view_at published own (c.args.place + 1)) (Ok view))
    (λ view gives. view_at-given published own c.args.place session view stands gives) c.view_of.ensures.view

pub returns-clause-first : goal.returns-clause-first
returns-clause-first c =
    let stands = row-stands c.sessions.ensures c.requires.place c.index-sessions-place.is in
    rw (session_at-place c.args.own.now.sessions c.args.place, stands) c.view_of.ensures.first

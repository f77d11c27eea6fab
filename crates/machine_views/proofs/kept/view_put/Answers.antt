use Rattle.std.proofs.Common.{◌≡◌, Some}
use Rattle.std.specs.Prelude.{slice_get}
use Rattle.desk_words.specs.Tables.{published_of, rows_of}
use Rattle.machine_core.specs.Own.{after}
use Rattle.machine_views.proofs.Keeping.{put-stands, session-stands, view_at-given}
use Rattle.machine_views.proofs.kept.view_put.Goals as goal

pub view_and_upshot-requires-clause-session : goal.view_and_upshot-requires-clause-session
view_and_upshot-requires-clause-session c =
    let published = published_of (rows_of c.args.tables.now) in
    let own = c.args.own.now in
    let deed = c.args.deed.now in
    let session = c.put_session-session.result.now in
    session-stands published (after own deed) c.requires.sound.rows deed.target session
    (put-stands published own deed c.requires.sound session c.put_session-session.ensures)

pub returns-clause-view : goal.returns-clause-view
returns-clause-view c =
    let published = published_of (rows_of c.args.tables.now) in
    let deed = c.args.deed.now in
    let own = after c.args.own.now deed in
    let session = c.put_session-session.result.now in
    let stands : slice_get own.sessions deed.target ≡ Some session =
    put-stands published c.args.own.now deed c.requires.sound session c.put_session-session.ensures in
    view_at-given published own deed.target session c.in_ok-view.view stands c.in_ok-view.ensures.view

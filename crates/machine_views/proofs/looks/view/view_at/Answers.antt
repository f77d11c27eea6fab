use Rattle.desk_words.specs.Tables.{rows_of}
use Rattle.machine_core.proofs.GoodRows.{own-session}
use Rattle.machine_views.proofs.looks.view.view_at.Goals as goal

pub view_of-requires-clause-session : goal.view_of-requires-clause-session
view_of-requires-clause-session c =
    own-session (rows_of c.args.tables.now) c.args.own.now c.requires.ready.valid c.requires.own c.args.number
    c.in_ok-session.session.now c.sessions.ensures c.in_ok-session.ensures.stands

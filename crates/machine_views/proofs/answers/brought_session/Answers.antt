use Rattle.desk_words.specs.Tables.{rows_of}
use Rattle.machine_core.proofs.GoodRows.{own-session}
use Rattle.machine_views.proofs.answers.brought_session.Goals as goal

pub hold-requires-clause-edition : goal.hold-requires-clause-edition
hold-requires-clause-edition c =
    (own-session (rows_of c.args.tables.now) c.args.own.now c.requires.ready.valid c.requires.own c.args.number
    c.in_ok-session.session.now c.sessions.ensures c.in_ok-session.ensures.stands).edition

pub returns-clause-stands : goal.returns-clause-stands
returns-clause-stands c =
    own-session (rows_of c.args.tables.now) c.args.own.now c.requires.ready.valid c.requires.own c.args.number
    c.in_ok-session.session.now c.sessions.ensures c.in_ok-session.ensures.stands

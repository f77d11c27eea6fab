use Rattle.std.proofs.Common.{◌-◌}
use Rattle.desk_words.specs.Tables.{rows_of}
use Rattle.machine_core.proofs.GoodRows.{own-sessions}
use Rattle.machine_clerk.proofs.clerk.opening.open_session.Goals as goal

pub hold-requires-clause-edition : goal.hold-requires-clause-edition
hold-requires-clause-edition c =
    let stands = rw c.sessions.ensures at c.in_ok-session.ensures.stands in
    (own-sessions (rows_of c.args.tables.now) c.args.own.now c.requires.ready.valid c.requires.own (c.args.number - 1)
    c.in_ok-session.session.now stands).edition

pub returns-clause-good : goal.returns-clause-good
returns-clause-good c =
    let stands = rw c.sessions.ensures at c.in_ok-session.ensures.stands in
    own-sessions (rows_of c.args.tables.now) c.args.own.now c.requires.ready.valid c.requires.own (c.args.number - 1)
    c.in_ok-session.session.now stands

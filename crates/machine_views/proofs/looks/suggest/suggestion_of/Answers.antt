use Rattle.desk_words.specs.Tables.{published_of, rows_of}
use Rattle.machine_core.specs.Shelves.{bound_on}
use Rattle.machine_core.proofs.GoodRows.{own-session}
use Rattle.machine_views.proofs.Advising.{suggestion-given}
use Rattle.machine_views.proofs.looks.suggest.suggestion_of.Goals as goal

pub hold-requires-clause-edition : goal.hold-requires-clause-edition
hold-requires-clause-edition c =
    (own-session (rows_of c.args.tables.now) c.args.own.now c.requires.ready.valid c.requires.own c.args.number
    c.in_ok-session.session.now c.sessions.ensures c.in_ok-session.ensures.stands).edition

pub book_for-shelved-requires-clause-session : goal.book_for-shelved-requires-clause-session
book_for-shelved-requires-clause-session c =
    own-session (rows_of c.args.tables.now) c.args.own.now c.requires.ready.valid c.requires.own c.args.number
    c.in_ok-session.session.now c.sessions.ensures c.in_ok-session.ensures.stands

pub returns-clause-suggestion : goal.returns-clause-suggestion
returns-clause-suggestion c =
    suggestion-given (published_of (rows_of c.args.tables.now)) c.args.own.now c.args.number
    c.in_ok-session.session.now (bound_on c.book_for-shelved.result.now) c.in_ok-suggestion_on.field-0
    (rw c.sessions.ensures at c.in_ok-session.ensures.finds) c.book_for-shelved.ensures.bound
    c.in_ok-suggestion_on.ensures.suggestion

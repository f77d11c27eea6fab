use Rattle.machine_core.specs.Look.Blocked.{blocked_on}
use Rattle.machine_core.specs.Tests.{session_of}
use Rattle.machine_views.proofs.Books.{session-given}
use Rattle.machine_views.proofs.looks.blocking.blocked_at.Goals as goal

pub blocked_on-requires-clause-suits : goal.blocked_on-requires-clause-suits
blocked_on-requires-clause-suits c = c.book_for-shelved.ensures.suits

pub returns-clause-blocked : goal.returns-clause-blocked
returns-clause-blocked c =
    session-given (session_of c.args.own.now.sessions c.args.number)
    (blocked_on c.args.number) c.in_ok-session.session.now c.book_for-shelved.result.now c.blocked_on.result
    c.in_ok-session.ensures.finds c.book_for-shelved.ensures c.blocked_on.ensures.blocked

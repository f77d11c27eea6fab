use Rattle.std.proofs.Common.{Ok, ap, rules, sym}
use Rattle.machine_core.specs.Checked.{told}
use Rattle.machine_core.specs.Look.Explain.{explained_on}
use Rattle.machine_core.specs.Tests.{session_of}
use Rattle.machine_views.proofs.Books.{session-given}
use Rattle.machine_views.proofs.looks.explaining.explain.Goals as goal

pub explained_on-requires-clause-suits : goal.explained_on-requires-clause-suits
explained_on-requires-clause-suits c = c.book_for-shelved.ensures.suits

pub returns-clause-replies : goal.returns-clause-replies
returns-clause-replies c look is =
    rw is (c.replied.ensures.told _ _ (λ one answer is. ap (λ reply. told (Ok reply)) (sym is))
    (session-given (session_of c.args.own.now.sessions c.args.number)
    (λ bound session. explained_on bound session c.args.word.now) c.in_ok-session.session.now
    c.book_for-shelved.result.now c.explained_on.result c.in_ok-session.ensures.finds
    c.book_for-shelved.ensures c.explained_on.ensures.explained))

pub returns-in_err-session-clause-replies : goal.returns-in_err-session-clause-replies
returns-in_err-session-clause-replies c look is = rw is (search rules)

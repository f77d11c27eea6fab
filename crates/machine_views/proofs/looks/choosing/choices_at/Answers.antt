use Rattle.std.specs.Prelude.{Ok}
use Rattle.machine_core.specs.Look.Choices.{choices_on}
use Rattle.machine_core.specs.Tests.{session_of}
use Rattle.machine_views.proofs.Books.{session-given}
use Rattle.machine_views.proofs.looks.choosing.choices_at.Goals as goal

pub choices_on-requires-clause-suits : goal.choices_on-requires-clause-suits
choices_on-requires-clause-suits c = c.book_for-shelved.ensures.suits

pub returns-clause-choices : goal.returns-clause-choices
returns-clause-choices c =
    session-given (session_of c.args.own.now.sessions c.args.number)
    (choices_on c.args.number) c.in_ok-session.session.now c.book_for-shelved.result.now (Ok c.in_ok-choices_on.field-0)
    c.in_ok-session.ensures.finds c.book_for-shelved.ensures c.in_ok-choices_on.ensures.choices

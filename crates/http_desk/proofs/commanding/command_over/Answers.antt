use Rattle.std.proofs.Common.{◌∙◌, Option, ap, sym, subst}
use Rattle.httparse.specs.Spans.{span_bytes}
use Rattle.http_desk.specs.declared.declined.Declined.{Declined}
use Rattle.http_desk.specs.Checked.{Finds}
use Rattle.http_desk.specs.Commands.{command_for}
use Rattle.http_desk.specs.Fronts.{or_stopped}
use Rattle.http_desk.proofs.Fronts.{nothing-stops}
use Rattle.http_desk.proofs.commanding.command_over.Goals as goal

-- the front stopped it
pub returns-in-Some-clause-command : goal.returns-in-Some-clause-command
returns-in-Some-clause-command c = λ head shows apart.
    let body = span_bytes c.args.intake.now c.args.request.now.body in
    ap (λ (why : Option Declined). or_stopped why (command_for (head, body)))
    (sym ((rw c.bytes.ensures at c.stop.ensures) head shows) ∙ c.in-Some.is)

-- nothing did
pub returns-in-None-clause-command : goal.returns-in-None-clause-command
returns-in-None-clause-command c = λ head shows.
    let body = span_bytes c.args.intake.now c.args.request.now.body in
    let none = sym ((rw c.bytes.ensures at c.stop.ensures) head shows) ∙ c.in-None.is in
    subst (Finds c.command_for.result) (sym (nothing-stops c.args.front.now (head, body) none))
    (c.command_for.ensures.command head shows)

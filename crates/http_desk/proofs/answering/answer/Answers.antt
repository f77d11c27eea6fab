use Rattle.std.proofs.Common.{◌≡◌, rules, subst, Bool, List, ℕ}
use Rattle.std.specs.Prelude.{codes}
use Rattle.std.specs.Str.{bytes_eq}
use Rattle.httparse.specs.Spans.{span_bytes}
use Rattle.keeper_core.specs.Keeping.{uses}
use Rattle.http_desk.specs.Answered.{IsAnswered, text_bytes}
use Rattle.http_desk.specs.Fronts.{command_over}
use Rattle.http_desk.proofs.Declining.{declined}
use Rattle.http_desk.proofs.answering.answer.Goals as goal

-- the request was declined before the machine
pub returns-in-Err-clause-answered : goal.returns-in-Err-clause-answered
returns-in-Err-clause-answered g c =
    λ head shows.
    let steady : Type 0 = g.K.Keeper.is_steady c.args.keeper.now in
    let rows = g.M.Machine.rows c.args.machine.now in
    let used = uses g.K.Keeper.calls g.K.Keeper.faults c.args.keeper.now in
    let asks = command_over c.args.front.now (head, span_bytes c.args.intake.now c.args.request.now.body) in
    let named : c.eq-asks_head.result ≡ bytes_eq c.of.result.now (codes "HEAD") = search rules in
    let method : c.of.result.now ≡ head.method =
    subst (λ (m : List ℕ). c.of.result.now ≡ m) shows.method (rw c.bytes.ensures at c.of.ensures) in
    let same : c.eq-asks_head.result ≡ bytes_eq head.method (codes "HEAD") =
    subst (λ (m : List ℕ). c.eq-asks_head.result ≡ bytes_eq m (codes "HEAD")) method named in
    subst (λ (asks_head : Bool). IsAnswered steady rows asks c.args.closing asks_head rows
    (text_bytes c.declined_text.result) used used) same
    (declined steady rows asks c.args.closing c.eq-asks_head.result c.in-Err.why (text_bytes c.declined_text.result)
    used (c.in-Err.ensures.command head shows) c.declined_text.ensures)

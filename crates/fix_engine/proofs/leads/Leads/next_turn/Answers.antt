use Rattle.std.proofs.Common.{ap, arith, below_more, length}
use Rattle.fix_engine.specs.Turns.{IsPassed}
use Rattle.fix_engine.proofs.Turns.{IsLeastOfAll-passed, departs_nowhere}
use Rattle.fix_engine.proofs.leads.Leads.next_turn.Goals as goal

pub rules-init : goal.rules-init
rules-init g c = λ end led departures passed. passed

pub rules-preserved : goal.rules-preserved
rules-preserved g c = λ end led departures passed.
    below_more (IsPassed (g.B.Book.kit c.args.book.now) end c.args.state.now) c.rules.rule
    (c.rules.invariant end led departures passed) (c.in_default.ensures end led departures)

pub returns-in-Some : goal.returns-in-Some
returns-in-Some g c = λ end led departures passed.
    let kit = g.B.Book.kit c.args.book.now in
    let (is_turn, its, least) = c.in-Some.ensures end led departures in (
      is_turn,
      IsLeastOfAll-passed kit c.rules-2.ensures.valid end c.args.self.now.leads.items c.args.state.now c.requires
          led c.rules.rule c.in-Some.turn.step its (c.rules.invariant end led departures passed) least,
    )

pub returns : goal.returns
returns g c = λ end led departures passed.
    let kit = g.B.Book.kit c.args.book.now in
    departs_nowhere kit c.rules-2.ensures.valid end c.args.self.now.leads.items c.args.state.now c.requires led
    (λ place within. c.rules.invariant end led departures passed place (omega
    (arith, ap length c.rules-2.ensures.rules)))

use Rattle.fix_model.specs.declared.state.State.{State}
use Rattle.fix_engine.specs.Departures.{AreDepartures, IsLedTo}
use Rattle.fix_engine.specs.Turns.{ArePassedBefore}
use Rattle.fix_engine.proofs.leads.Leads.next_turn.Given as goal

-- the rules so far are passed
abbrev pub invariant-rules : goal.invariant-rules
invariant-rules g l =
    let kit = g.B.Book.kit l.book in
    (end : State) → IsLedTo kit l.state end l.self.leads.items → AreDepartures kit end l.state l.departures
    → ArePassedBefore kit end l.state l.from → ArePassedBefore kit end l.state l.rule

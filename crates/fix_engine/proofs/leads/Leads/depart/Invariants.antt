use Rattle.std.proofs.Common.{◌≡◌, ◌≤◌, ◌+◌, length}
use Rattle.std.specs.Prelude.{vec_capacity}
use Rattle.fix_model.specs.declared.state.State.{State}
use Rattle.fix_model.specs.States.{Fits, uncovered_count}
use Rattle.fix_engine.specs.Turns.{ArePassedBefore, IsLeftFrom}
use Rattle.fix_engine.proofs.SecondRuns.{KeepsSoFar}
use Rattle.fix_engine.proofs.leads.Leads.depart.Given as goal

-- there is an end to depart from, the steps so far keep to each such end, and no run that ends elsewhere begins with a
-- rule before the one to go on from
abbrev pub invariant-turns : goal.invariant-turns
invariant-turns g l =
    let kit = g.B.Book.kit l.book in
    record {
      fits : Fits kit l.state;
      typed : l.state.typed ≡ l.fn.state.typed;
      places : length l.run.items + uncovered_count l.state ≤ vec_capacity l.run;
      room : vec_capacity l.fn.run ≤ vec_capacity l.run;
      left : (end : State) × IsLeftFrom kit l.state end l.self.leads.items l.departures
          × ArePassedBefore kit end l.state l.from;
      keeps : (end : State) → IsLeftFrom kit l.fn.state end l.self.leads.items l.fn.departures
          → KeepsSoFar kit end l.fn.state l.state l.self.leads.items l.departures l.fn.run.items l.run.items
          × ArePassedBefore kit end l.state l.from;
    }

-- each step covers an attribute more
abbrev pub decreases-turns : goal.decreases-turns
decreases-turns g l = uncovered_count l.state

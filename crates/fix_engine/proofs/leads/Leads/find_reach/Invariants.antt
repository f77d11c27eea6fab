use Rattle.std.proofs.Common.{◌≡◌, ◌≤◌, length, not}
use Rattle.std.specs.Prelude.{filter, vec_capacity}
use Rattle.fix_model.specs.declared.state.State.{State}
use Rattle.fix_engine.specs.Departures.{IsLedTo, IsReach}
use Rattle.fix_engine.proofs.leads.Leads.find_reach.Given as goal

-- what is flagged is what some supported run covers
abbrev pub invariant-rules : goal.invariant-rules
invariant-rules g l =
    let kit = g.B.Book.kit l.book in
    record {
      whole : length l.reach.items ≡ kit.width;
      room : vec_capacity l.fn.reach ≤ vec_capacity l.reach;
      reached : (end : State) → IsLedTo kit l.state end l.self.leads.items
          → IsReach kit end l.state l.left_out l.reach.items;
    }

abbrev pub decreases-rules : goal.decreases-rules
decreases-rules g l = length (filter not l.reach.items)

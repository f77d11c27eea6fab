use Rattle.std.proofs.Common.{◌≡◌, ◌<◌, ◌≤◌, ℕ, length}
use Rattle.std.specs.Prelude.{◌↔◌, vec_capacity}
use Rattle.fix_model.specs.declared.state.State.{State}
use Rattle.fix_engine.specs.Departures.{CanDepart, IsLedTo, IsLeftSomehow}
use Rattle.fix_engine.specs.Flags.{IsFlagged}
use Rattle.fix_engine.proofs.leads.Leads.find_departures.Given as goal

-- the attributes so far are flagged where they can be departed at, and the others where they are left
abbrev pub invariant-attributes : goal.invariant-attributes
invariant-attributes g l =
    let kit = g.B.Book.kit l.book in
    record {
      whole : length l.departures.items ≡ kit.width;
      each : (end : State) → IsLedTo kit l.state end l.self.leads.items → (attribute : ℕ) → attribute < l.attribute
          → IsFlagged l.departures.items attribute ↔ CanDepart kit end l.state attribute;
      ahead : (attribute : ℕ) → l.attribute ≤ attribute → IsLeftSomehow kit l.self.leads.items attribute
          → IsFlagged l.departures.items attribute;
      departures_stay : vec_capacity l.fn.departures ≤ vec_capacity l.departures;
      reach_stays : vec_capacity l.fn.reach ≤ vec_capacity l.reach;
    }

use Rattle.std.proofs.Common.{◌≡◌, ◌<◌, ◌≤◌, ℕ, get_or, length}
use Rattle.std.specs.Prelude.{vec_capacity}
use Rattle.fix_engine.specs.declared.leads.Lead.TheVariants.{Nothing}
use Rattle.fix_engine.specs.Leads.{IsLead}
use Rattle.fix_engine.specs.Looks.{LooksAround}
use Rattle.fix_engine.proofs.leads.Leads.find.Given as goal

-- the rules so far have their leads
abbrev pub invariant-rules : goal.invariant-rules
invariant-rules g l =
    let kit = g.B.Book.kit l.book in
    record {
      whole : length l.self.leads.items ≡ l.rule;
      each : (place : ℕ) → place < l.rule → IsLead kit l.state place (get_or l.self.leads.items place Nothing);
      looks : LooksAround kit l.state l.fn.looks l.looks l.fn.counts l.counts;
      room : vec_capacity l.fn.self.leads ≤ vec_capacity l.self.leads;
    }

use Rattle.std.proofs.Common.{◌≡◌, ◌<◌, ◌≤◌, ℕ}
use Rattle.fix_engine.specs.Departures.{IsNextRule}
use Rattle.fix_engine.proofs.leads.Leads.next_rule_among.Given as goal

-- none of the rules so far goes on, and the others are left to be tried
abbrev pub invariant-rules : goal.invariant-rules
invariant-rules g l = record {
  none : (place : ℕ) → l.fn.rules.start ≤ place → place < l.rule-iterator.start
      → ¬ IsNextRule (g.B.Book.kit l.book) l.self.leads.items l.flags l.left_out place;
  left : l.rule-iterator.end ≡ l.fn.rules.end;
}

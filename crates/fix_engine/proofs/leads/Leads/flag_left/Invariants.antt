use Rattle.std.proofs.Common.{◌≡◌, ◌≤◌, ℕ, length}
use Rattle.std.specs.Prelude.{◌↔◌, vec_capacity}
use Rattle.fix_engine.specs.Flags.{IsFlagged}
use Rattle.fix_engine.proofs.Reach.{IsLeftBefore}
use Rattle.fix_engine.proofs.leads.Leads.flag_left.Given as goal

-- the heads that the rules so far leave are flagged
abbrev pub invariant-rules : goal.invariant-rules
invariant-rules g l =
    let kit = g.B.Book.kit l.book in
    record {
      whole : length l.flags.items ≡ kit.width;
      left : (attribute : ℕ) → IsFlagged l.flags.items attribute ↔ IsLeftBefore kit l.self.leads.items l.rule attribute;
      room : vec_capacity l.fn.flags ≤ vec_capacity l.flags;
    }

use Rattle.std.proofs.Common.{◌<◌, ℕ}
use Rattle.fix_engine.specs.Looks.{LooksAround}
use Rattle.fix_engine.specs.Next.{IsIdle}
use Rattle.fix_engine.proofs.looks.Looks.next_step.Given as goal

-- the rules so far are idle
abbrev pub invariant-rules : goal.invariant-rules
invariant-rules g l = record {
  idle : (place : ℕ) → place < l.rule → IsIdle (g.B.Book.kit l.book) l.state place;
  looks : LooksAround (g.B.Book.kit l.book) l.state l.fn.self l.self l.fn.counts l.counts;
}

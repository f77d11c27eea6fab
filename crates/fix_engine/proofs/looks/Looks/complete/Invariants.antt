use Rattle.std.proofs.Common.{◌<◌, ◌≤◌, ◌+◌, ℕ, length}
use Rattle.std.specs.Prelude.{vec_capacity}
use Rattle.fix_model.specs.States.{Fits, uncovered_count}
use Rattle.fix_engine.specs.Looks.{AreKnown, pending_count}
use Rattle.fix_engine.specs.Next.{IsIdle}
use Rattle.fix_engine.proofs.FirstRuns.{IsBeginning}
use Rattle.fix_engine.proofs.looks.Looks.complete.Given as goal

-- the steps so far lead to the state, and are the beginning of the first run; the rules before the one to go on from
-- are idle
abbrev pub invariant-steps : goal.invariant-steps
invariant-steps g l =
    let kit = g.B.Book.kit l.book in
    record {
      beginning : IsBeginning kit l.fn.state l.state l.fn.run.items l.run.items;
      fits : Fits kit l.state;
      known : AreKnown kit l.state l.self.remembered.items;
      looks : l.counts.looks + pending_count l.self.remembered.items ≤ l.fn.counts.looks + length kit.rules;
      looks_stay : vec_capacity l.fn.self.remembered ≤ vec_capacity l.self.remembered;
      places : length l.run.items + uncovered_count l.state ≤ vec_capacity l.run;
      room : vec_capacity l.fn.run ≤ vec_capacity l.run;
      idle : (place : ℕ) → place < l.from → IsIdle kit l.state place;
    }

-- each step covers an attribute more
abbrev pub decreases-steps : goal.decreases-steps
decreases-steps g l = uncovered_count l.state

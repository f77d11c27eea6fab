use Rattle.std.proofs.Common.{◌<◌, ◌≤◌, ℕ}
use Rattle.fix_engine.specs.Flags.{IsFlagged}
use Rattle.fix_engine.proofs.flags.last_flagged.Given as goal

-- of the places so far the last one that is flagged
abbrev pub invariant-flags : goal.invariant-flags
invariant-flags l = (place : ℕ) → place < l.place → IsFlagged l.flags place → (place ≤ l.last) × IsFlagged l.flags l.last

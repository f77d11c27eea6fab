use Rattle.std.proofs.Common.{◌≡◌, ◌<◌, ℕ}
use Rattle.fix_engine.specs.Flags.{IsFlagged}
use Rattle.fix_engine.proofs.flags.has_other.Given as goal

abbrev pub invariant-flags : goal.invariant-flags
invariant-flags l = (other : ℕ) → other < l.place → IsFlagged l.flags other → other ≡ l.attribute

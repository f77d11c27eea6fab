use Rattle.std.proofs.Common.{◌<◌, ℕ}
use Rattle.std.specs.Prelude.{◌↔◌, Contains}
use Rattle.fix_engine.specs.Flags.{IsFlagged}
use Rattle.region_suggest.proofs.dependencies.flagged.Given as goal

-- the flags so far are listed
abbrev pub invariant-flags : goal.invariant-flags
invariant-flags l = (attribute : ℕ) → Contains l.found.items attribute
    ↔ ((attribute < l.place) × IsFlagged l.flags attribute)

use Rattle.std.proofs.Common.{◌≡◌, replicate}
use Rattle.region_suggest.proofs.dependencies.same_flags.Given as goal

-- the flags so far are this one
abbrev pub invariant-flags : goal.invariant-flags
invariant-flags l = l.flags.items ≡ replicate l.counter l.flag

use Rattle.std.proofs.Common.{◌≡◌, ◌<◌, ℕ, false, get_or}
use Rattle.fix_engine.proofs.flags.has_flag.Given as goal

abbrev pub invariant-flags : goal.invariant-flags
invariant-flags l = (attribute : ℕ) → attribute < l.flag-index → get_or l.flags attribute false ≡ false

use Rattle.std.proofs.Common.{◌<◌, ◌+◌, ℕ, get_or}
use Rattle.desk_valid.proofs.attributes.ascend.Given as goal

-- the attributes so far ascend
abbrev pub invariant-attributes : goal.invariant-attributes
invariant-attributes l = (k : ℕ) → k + 1 < l.place → get_or l.attributes k 0 < get_or l.attributes (k + 1) 0

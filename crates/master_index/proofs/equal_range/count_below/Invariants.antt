use Rattle.master_index.proofs.Cutting.{IsCut}
use Rattle.master_index.proofs.equal_range.count_below.Given as goal

abbrev pub invariant-levels : goal.invariant-levels
invariant-levels l = IsCut l.numbers l.limit l.base l.level

abbrev pub decreases-levels : goal.decreases-levels
decreases-levels l = l.level

use Rattle.desk_base.proofs.Distinct.{DifferBefore}
use Rattle.region_suggest.proofs.fitting.are_apart.Given as goal

-- each attribute so far differs from all after it
abbrev pub invariant-attributes : goal.invariant-attributes
invariant-attributes l = DifferBefore (λ attribute. attribute) l.attributes l.place

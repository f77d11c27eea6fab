use Rattle.desk_base.proofs.Distinct.{DifferBefore}
use Rattle.fix_model.proofs.kit.has_distinct_attributes.Given as goal

abbrev pub invariant-pairs : goal.invariant-pairs
invariant-pairs g l = DifferBefore (λ pair. pair.0) l.pairs l.place

use Rattle.desk_base.proofs.Distinct.{DifferBefore}
use Rattle.desk_base.proofs.places.are_distinct.Given as goal

abbrev pub invariant-texts : goal.invariant-texts
invariant-texts l = DifferBefore (λ text. text) l.texts l.place

use Rattle.desk_base.proofs.Distinct.{DifferBefore}
use Rattle.desk_base.proofs.places.are_apart.Given as goal

-- each number so far differs from all after it
abbrev pub invariant-numbers : goal.invariant-numbers
invariant-numbers l = DifferBefore (λ number. number) l.numbers l.place

use Rattle.master_index.specs.Earliest.{ShareLooksBefore}
use Rattle.master_index.proofs.earliest.earliest_of.Given as goal

abbrev pub invariant-rules : goal.invariant-rules
invariant-rules l = ShareLooksBefore l.kit l.rule l.earliest

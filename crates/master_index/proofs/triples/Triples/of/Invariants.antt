use Rattle.master_index.specs.Triples.{AreTriplesBefore}
use Rattle.master_index.proofs.triples.Triples.of.Given as goal

abbrev pub invariant-rules : goal.invariant-rules
invariant-rules l = AreTriplesBefore l.kit l.rule l.triples

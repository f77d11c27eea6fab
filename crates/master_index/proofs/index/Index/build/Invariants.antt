use Rattle.master_index.specs.Index.{IsIndexBefore}
use Rattle.master_index.proofs.index.Index.build.Given as goal

abbrev pub invariant-rules : goal.invariant-rules
invariant-rules l = IsIndexBefore l.kit l.rule l.index

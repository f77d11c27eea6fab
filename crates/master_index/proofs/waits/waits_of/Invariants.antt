use Rattle.master_index.specs.Waits.{AreWaitsBefore}
use Rattle.master_index.proofs.waits.waits_of.Given as goal

abbrev pub invariant-attributes : goal.invariant-attributes
invariant-attributes l = AreWaitsBefore l.kit l.attribute l.waits

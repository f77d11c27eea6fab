use Rattle.fix_model.specs.Waits.{NoneWaitsBefore}
use Rattle.fix_model.proofs.waiting.first_waiting.Given as goal

abbrev pub invariant-rules : goal.invariant-rules
invariant-rules l = NoneWaitsBefore l.kit l.attribute l.rule

use Rattle.session_machine.proofs.desk.Desk.over.Goals as goal

pub invariant_of-result : goal.invariant_of-result
invariant_of-result c = rw c.in_ok-totalled.ensures (c.in_ok-workplace.ensures.ready _ c.requires)

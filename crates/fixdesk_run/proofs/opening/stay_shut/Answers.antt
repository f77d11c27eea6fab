use Rattle.fixdesk_run.proofs.opening.stay_shut.Goals as goal

pub returns-in-Damaged-clause-told : goal.returns-in-Damaged-clause-told
returns-in-Damaged-clause-told g c left read_faults = rw c.in-Damaged.is (c.tell_damage.ensures.told left read_faults)

use Rattle.machine_core.proofs.answers.state_of.Goals as goal

pub returns-clause-fits : goal.returns-clause-fits
returns-clause-fits c = rw c.in_ok-typed.ensures at c.new.ensures.fits

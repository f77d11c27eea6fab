use Rattle.fix_engine.proofs.deciding.judge.Goals as goal

pub invariant_of-work : goal.invariant_of-work
invariant_of-work g c = c.survey.ensures.room _ _ c.work.invariant

use Rattle.fix_engine.proofs.laws.every_state_has_an_answer.Goals as goal

pub returns : goal.returns
returns g c = (c.decide.new.work.first, c.decide.new.work.second, c.decide.result, c.decide.ensures.answer)

use Rattle.fix_engine.proofs.Once.{IsSecondRun-unique}
use Rattle.fix_engine.proofs.laws.one_second_run.Goals as goal

pub returns : goal.returns
returns c = IsSecondRun-unique c.args.kit.now c.args.state.now c.args.first.now c.args.run.now c.args.other.now
    c.requires.run c.requires.other

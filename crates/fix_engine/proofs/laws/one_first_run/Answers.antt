use Rattle.fix_engine.proofs.Once.{IsFirstRun-unique}
use Rattle.fix_engine.proofs.laws.one_first_run.Goals as goal

pub returns : goal.returns
returns c = IsFirstRun-unique c.args.kit.now c.args.state.now c.args.run.now c.args.other.now c.requires.run
    c.requires.other

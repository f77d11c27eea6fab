use Rattle.fix_engine.proofs.Once.{IsDissent-unique}
use Rattle.fix_engine.proofs.laws.one_dissent.Goals as goal

pub returns : goal.returns
returns c = IsDissent-unique c.args.kit.now c.args.state.now c.args.dissent c.args.other c.requires.dissent
    c.requires.other

use Rattle.fix_explain.proofs.Enough.{IsRun-unused}
use Rattle.fix_explain.proofs.laws.no_use_can_be_left_out.Goals as goal

pub returns : goal.returns
returns c = IsRun-unused c.args.kit.now c.args.state.now c.args.other.now c.args.steps.now c.args.uses.now
    c.requires.uses c.args.attribute c.requires.run c.requires.used c.requires.uncovered

use Rattle.fix_explain.proofs.Shortest.{IsReason-remove}
use Rattle.fix_explain.proofs.laws.no_step_can_be_left_out.Goals as goal

pub returns : goal.returns
returns c = IsReason-remove c.args.kit.now c.args.attribute c.args.state.now c.args.run.now c.args.reason.now
    c.requires.reason c.args.place c.requires.within

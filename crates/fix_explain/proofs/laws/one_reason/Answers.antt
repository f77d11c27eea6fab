use Rattle.fix_explain.proofs.Shortest.{IsReason-one}
use Rattle.fix_explain.proofs.laws.one_reason.Goals as goal

pub returns : goal.returns
returns c = IsReason-one c.args.kit.now c.args.attribute c.args.state.now c.args.run.now c.args.reason.now
    c.args.other.now c.requires.reason c.requires.other

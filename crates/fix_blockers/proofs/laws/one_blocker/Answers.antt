use Rattle.fix_blockers.proofs.OneBlocker.{one_blocker}
use Rattle.fix_blockers.proofs.laws.one_blocker.Goals as goal

pub returns : goal.returns
returns c = one_blocker c.args.kit.now c.args.state.now c.args.rule.now c.args.blocker.now c.args.other.now
    c.requires.blocker c.requires.other

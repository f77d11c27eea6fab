use Rattle.fix_blockers.proofs.OneList.{AreBlocked-one}
use Rattle.fix_blockers.proofs.laws.one_list.Goals as goal

pub returns : goal.returns
returns c = AreBlocked-one c.args.kit.now c.args.state.now c.args.blocked.now c.args.other.now c.requires.blocked
    c.requires.other

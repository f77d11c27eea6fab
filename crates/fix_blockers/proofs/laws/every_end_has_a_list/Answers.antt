use Rattle.fix_blockers.proofs.OneList.{AreBlocked-some}
use Rattle.fix_blockers.proofs.laws.every_end_has_a_list.Goals as goal

pub returns : goal.returns
returns c = AreBlocked-some c.args.kit.now c.args.state.now c.requires

use Rattle.fix_blockers.proofs.OneBlocker.{some_blocker}
use Rattle.fix_blockers.proofs.laws.every_rule_of_an_uncovered_attribute_is_blocked.Goals as goal

pub returns : goal.returns
returns c = some_blocker c.args.kit.now c.args.state.now c.args.place c.requires.within c.requires.ended
    c.requires.uncovered

use Rattle.fix_blockers.proofs.Distinct.{unknown-apart}
use Rattle.fix_blockers.proofs.laws.no_attribute_is_unknown_twice.Goals as goal

pub returns : goal.returns
returns c = unknown-apart c.args.kit.now c.args.state.now c.args.rule.now c.requires

use Rattle.fix_choices.proofs.Differing.{choices-in_order}
use Rattle.fix_choices.proofs.laws.choices_stand_in_order.Goals as goal

pub returns : goal.returns
returns c = choices-in_order c.args.kit.now c.args.first.now c.args.second.now

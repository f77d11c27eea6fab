use Rattle.fix_choices.proofs.Differing.{choices-differ}
use Rattle.fix_choices.proofs.laws.choices_are_where_the_ends_differ.Goals as goal

pub returns : goal.returns
returns c = choices-differ c.args.kit.now c.args.first.now c.args.second.now

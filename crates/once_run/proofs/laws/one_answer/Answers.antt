use Rattle.once_run.proofs.Determined.{one_text}
use Rattle.once_run.proofs.laws.one_answer.Goals as goal

pub returns : goal.returns
returns c = one_text c.args.input.now c.args.text.now c.args.other.now c.requires.answered c.requires.also

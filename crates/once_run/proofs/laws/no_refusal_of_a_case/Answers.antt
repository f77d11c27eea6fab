use Rattle.once_run.proofs.Determined.{no_refusal}
use Rattle.once_run.proofs.laws.no_refusal_of_a_case.Goals as goal

pub returns : goal.returns
returns c line (refusal, why, is) = no_refusal c.args.input.now c.args.text.now c.requires refusal why

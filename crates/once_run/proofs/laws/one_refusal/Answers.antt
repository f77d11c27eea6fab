use Rattle.once_run.proofs.Determined.{one_line}
use Rattle.once_run.proofs.laws.one_refusal.Goals as goal

pub returns : goal.returns
returns c = one_line c.args.input.now c.args.line.now c.args.other.now c.requires.refused c.requires.also

use Rattle.machine_laws.proofs.Comparing.{some-changes}
use Rattle.machine_laws.proofs.questions.every_change_is_told.Goals as goal

pub returns : goal.returns
returns c = some-changes c.args.before.now c.args.after.now c.requires

use Rattle.fix_model.proofs.Plain.{AreAlike-exact, Fires-exact}
use Rattle.fix_model.proofs.laws.plain.Goals as goal

pub returns-clause-alike : goal.returns-clause-alike
returns-clause-alike c = AreAlike-exact c.args.kit.now c.requires

pub returns-clause-fires : goal.returns-clause-fires
returns-clause-fires c = Fires-exact c.args.kit.now c.requires c.args.state.now c.args.step

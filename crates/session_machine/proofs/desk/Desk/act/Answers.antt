use Rattle.std.proofs.Common.{◌∙◌, sym}
use Rattle.session_machine.proofs.Weighed.{weighed-available}
use Rattle.session_machine.proofs.desk.Desk.act.Goals as goal

pub returns-in-Ok-clause-steady : goal.returns-in-Ok-clause-steady
returns-in-Ok-clause-steady g c = λ steady. (
  λ is. weighed-available c.args.self.now.rows c.args.command.now c.weigh-weighed.result
      c.weigh-weighed.ensures.weighed c.weigh-weighed.ensures.settleable (sym c.in-Ok.ensures.reply ∙ is),
  (c.settle.ensures.steady steady).1,
)

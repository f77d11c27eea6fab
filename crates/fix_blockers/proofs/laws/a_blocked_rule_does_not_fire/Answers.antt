use Rattle.fix_model.specs.Rules.{rule_at}
use Rattle.fix_blockers.proofs.OneBlocker.{blocked-not_enabled}
use Rattle.fix_blockers.proofs.laws.a_blocked_rule_does_not_fire.Goals as goal

pub returns : goal.returns
returns c = λ fires. blocked-not_enabled c.args.kit.now c.args.state.now
    (rule_at c.args.kit.now c.args.step.rule) c.args.blocker.now c.requires fires.enabled c.args.step.row fires.agrees

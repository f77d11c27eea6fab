use Rattle.rule_contradictions.proofs.Lists.{AreContradictions-some}
use Rattle.rule_contradictions.proofs.laws.every_rule_has_a_list.Goals as goal

pub returns : goal.returns
returns c = AreContradictions-some c.args.kit.now c.args.rule.now

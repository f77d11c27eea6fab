use Rattle.rule_contradictions.proofs.Keys.{contradiction-told}
use Rattle.rule_contradictions.proofs.laws.every_contradiction_is_told.Goals as goal

pub returns : goal.returns
returns c = contradiction-told c.args.kit.now c.args.rule.now c.args.row c.args.other c.args.found.now
    c.requires.contradict c.requires.found

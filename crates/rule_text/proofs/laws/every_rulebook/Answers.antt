use Rattle.rule_text.proofs.Again.{read_rules-printed}
use Rattle.rule_text.proofs.laws.every_rulebook.Goals as goal

pub returns : goal.returns
returns c = read_rules-printed _ _ c.requires.schema c.requires.rulebook

use Rattle.rule_text.proofs.Sound.{IsRulebook-from_text}
use Rattle.rule_text.proofs.laws.only_rulebooks.Goals as goal

pub returns : goal.returns
returns c = IsRulebook-from_text _ _ _ c.requires

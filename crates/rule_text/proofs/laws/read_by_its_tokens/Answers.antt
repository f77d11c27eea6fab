use Rattle.rule_text.proofs.SameTokens.{read_rules-tokens}
use Rattle.rule_text.proofs.laws.read_by_its_tokens.Goals as goal

pub returns : goal.returns
returns c = read_rules-tokens _ _ _ c.requires

use Rattle.rule_text.proofs.Sentences.{tokens_of-IsSentence}
use Rattle.rule_text.proofs.laws.every_sentence.Goals as goal

pub returns : goal.returns
returns c = tokens_of-IsSentence c.args.text.now

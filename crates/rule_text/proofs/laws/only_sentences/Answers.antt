use Rattle.rule_text.proofs.Sentences.{IsSentence-tokens_of}
use Rattle.rule_text.proofs.laws.only_sentences.Goals as goal

pub returns : goal.returns
returns c = IsSentence-tokens_of c.args.text.now

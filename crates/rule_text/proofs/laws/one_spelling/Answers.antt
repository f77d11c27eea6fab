use Rattle.rule_text.proofs.Sentences.{Spells-unique}
use Rattle.rule_text.proofs.laws.one_spelling.Goals as goal

pub returns : goal.returns
returns c = λ tokens others spells. Spells-unique spells others

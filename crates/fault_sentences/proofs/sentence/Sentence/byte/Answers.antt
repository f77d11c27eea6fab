use Rattle.std.proofs.Common.{append_assoc}
use Rattle.fault_sentences.proofs.sentence.Sentence.byte.Goals as goal

pub returns : goal.returns
returns c = rw (c.from.ensures, c.in_ok-words.ensures, append_assoc) at c.digits.ensures

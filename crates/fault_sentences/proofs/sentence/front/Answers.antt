use Rattle.std.proofs.lemmas.List.{take_min}
use Rattle.fault_sentences.proofs.sentence.front.Goals as goal

pub returns : goal.returns
returns c = rw c.min.ensures (take_min _ c.args.characters.now)

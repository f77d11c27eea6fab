use Rattle.std.proofs.Common.{append_assoc}
use Rattle.fault_sentences.proofs.schemas.kind_told.Goals as goal

pub returns : goal.returns
returns c =
    let done = rw (
      c.in_ok-words-2.ensures,
      c.in_ok-words.ensures,
      c.kind_of.ensures,
    ) at c.words-3.ensures in simp append_assoc (simp append_assoc at done)

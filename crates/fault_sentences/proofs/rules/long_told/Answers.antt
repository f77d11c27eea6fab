use Rattle.std.proofs.Common.{append_assoc}
use Rattle.fault_sentences.specs.Rules.{long_told}
use Rattle.fault_sentences.proofs.rules.long_told.Goals as goal

pub returns : goal.returns
unfolding long_told
returns c =
    let done = rw (
      c.in_ok-has_bytes.ensures,
      c.in_ok-quoted.ensures,
    ) at c.words.ensures in simp append_assoc (simp append_assoc at done)

use Rattle.std.proofs.Common.{append_assoc}
use Rattle.fault_sentences.specs.Published.{versions}
use Rattle.fault_sentences.proofs.published.versions.Goals as goal

pub returns : goal.returns
unfolding versions
returns c =
    let done = rw (
      c.in_ok-words-2.ensures,
      c.in_ok-number.ensures,
      c.in_ok-words.ensures,
    ) at c.number-2.ensures in simp append_assoc (simp append_assoc at done)

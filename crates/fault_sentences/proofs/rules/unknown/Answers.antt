use Rattle.std.proofs.Common.{append_assoc}
use Rattle.fault_sentences.specs.Rules.{unknown}
use Rattle.fault_sentences.proofs.rules.unknown.Goals as goal

pub returns : goal.returns
unfolding unknown
returns c =
    let done = rw (
      c.in_ok-words-2.ensures,
      c.in_ok-schema.ensures,
      c.in_ok-words.ensures,
    ) at c.word.ensures in simp append_assoc (simp append_assoc at done)

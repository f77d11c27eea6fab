use Rattle.std.proofs.Common.{append_assoc}
use Rattle.fault_sentences.specs.Shown.{chars_quoted}
use Rattle.fault_sentences.proofs.sentence.Sentence.between_quotes.Goals as goal

pub returns : goal.returns
unfolding chars_quoted
returns c =
    let done = rw (
      c.in_ok-words-2.ensures,
      c.in_ok-escaped.ensures,
      c.in_ok-words.ensures,
      c.front.ensures,
    ) at c.rest.ensures in simp append_assoc at done

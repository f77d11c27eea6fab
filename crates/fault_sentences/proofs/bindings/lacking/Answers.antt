use Rattle.std.proofs.Common.{append_assoc}
use Rattle.fault_sentences.specs.Bindings.{lacking}
use Rattle.fault_sentences.proofs.bindings.lacking.Goals as goal

pub returns : goal.returns
unfolding lacking
returns c =
    let done = rw (
      c.in_ok-words-2.ensures,
      c.in_ok-shown.ensures,
      c.in_ok-words.ensures,
      c.as_bytes.ensures.value,
      c.as_str.ensures.text,
    ) at c.listed.ensures in simp append_assoc (simp append_assoc at done)

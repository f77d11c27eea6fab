use Rattle.std.proofs.Common.{append_assoc}
use Rattle.fault_sentences.specs.Sheets.{column_long}
use Rattle.fault_sentences.proofs.sheets.column_long.Goals as goal

pub returns : goal.returns
unfolding column_long
returns c =
    let done = rw (
      c.in_ok-has_bytes.ensures,
      c.in_ok-words-2.ensures,
      c.in_ok-quoted.ensures,
      c.in_ok-words.ensures,
    ) at c.words-3.ensures in simp append_assoc (simp append_assoc at done)

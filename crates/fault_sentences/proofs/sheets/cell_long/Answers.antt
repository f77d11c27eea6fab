use Rattle.std.proofs.Common.{append_assoc}
use Rattle.fault_sentences.specs.Sheets.{cell_long}
use Rattle.fault_sentences.proofs.sheets.cell_long.Goals as goal

pub returns : goal.returns
unfolding cell_long
returns c =
    let done = rw (
      c.in_ok-words-3.ensures,
      c.in_ok-shown.ensures,
      c.in_ok-words-2.ensures,
      c.in_ok-has_bytes.ensures,
      c.in_ok-number.ensures,
      c.in_ok-words.ensures,
    ) at c.quoted.ensures in simp append_assoc (simp append_assoc at done)

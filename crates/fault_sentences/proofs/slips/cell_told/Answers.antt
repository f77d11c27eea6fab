use Rattle.std.proofs.Common.{append_assoc}
use Rattle.fault_sentences.specs.Notes.{cell_told}
use Rattle.fault_sentences.proofs.slips.cell_told.Goals as goal

pub returns : goal.returns
unfolding cell_told
returns c =
    let done = rw (
      c.in_ok-words-3.ensures,
      c.in_ok-quoted.ensures,
      c.in_ok-words-2.ensures,
      c.in_ok-number.ensures,
      c.in_ok-words.ensures,
      c.cell_at.ensures,
      c.column_at.ensures,
    ) at c.shown.ensures in simp append_assoc (simp append_assoc at done)

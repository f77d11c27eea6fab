use Rattle.std.proofs.Common.{append_assoc}
use Rattle.fault_sentences.specs.Sheets.{row_not_utf8}
use Rattle.fault_sentences.proofs.sheets.row_not_utf8.Goals as goal

pub returns : goal.returns
unfolding row_not_utf8
returns c =
    let done = rw (
      c.in_ok-shown.ensures,
      c.in_ok-words-2.ensures,
      c.in_ok-number.ensures,
      c.in_ok-words.ensures,
      c.field_of.ensures,
      c.field_of-2.ensures,
      c.other_field-number.ensures,
    ) at c.at_other_byte.ensures in simp append_assoc (simp append_assoc at done)

use Rattle.std.proofs.Common.{append_assoc, rules}
use Rattle.fault_sentences.specs.Sheets.{header_not_utf8}
use Rattle.fault_sentences.proofs.sheets.header_not_utf8.Goals as goal

pub returns : goal.returns
unfolding header_not_utf8
returns c =
    let done = rw (
      c.in_ok-number.ensures,
      c.in_ok-words.ensures,
      c.field_of.ensures,
      c.other_field-number.ensures,
      append_assoc,
      append_assoc,
    ) at c.at_other_byte.ensures in search (rules, done)

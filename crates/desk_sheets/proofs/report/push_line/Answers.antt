use Rattle.std.proofs.Common.{append_assoc}
use Rattle.desk_sheets.proofs.report.push_line.Goals as goal

pub returns : goal.returns
returns c = rw (
  c.in_ok-push.ensures.items,
  c.in_ok-push_numbers.ensures,
  c.numbers_of.ensures,
  c.in_ok-extend_from_slice.ensures.items,
  c.as_bytes.ensures.value,
  c.as_str.ensures.text,
) (simp append_assoc)

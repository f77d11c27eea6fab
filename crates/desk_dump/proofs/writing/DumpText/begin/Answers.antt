use Rattle.std.proofs.Common.{◌≡◌, [], refl}
use Rattle.json_parts.specs.Writing.{with_value}
use Rattle.desk_dump.specs.Dumps.{first_line}
use Rattle.desk_dump.proofs.writing.DumpText.begin.Goals as goal

pub returns : goal.returns
returns c =
    let tokens : c.end_array.new.self ≡ with_value [] first_line = rw (
      c.in_ok-end_array.ensures,
      c.in_ok-number.ensures,
      c.in_ok-string.ensures,
      c.in_ok-begin_array.ensures,
      c.in_ok-out.ensures,
    ) refl in
    c.add.ensures first_line (c.into_bytes.ensures first_line tokens)

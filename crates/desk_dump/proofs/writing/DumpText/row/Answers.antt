use Rattle.std.proofs.Common.{◌≡◌, []}
use Rattle.serde_json.specs.Data.{Data}
use Rattle.json_parts.specs.Writing.{with_value}
use Rattle.desk_dump.specs.Dumps.{row_line}
use Rattle.desk_dump.proofs.Written.{row_line-tokens}
use Rattle.desk_dump.proofs.writing.DumpText.row.Goals as goal

pub returns : goal.returns
returns g c =
    let kind = c.args.kind.now in
    let fields = g.R.DumpRow.fields c.args.row.now in
    let value : Data = row_line kind c.args.places.now fields in
    let tokens : c.end_array.new.self ≡ with_value [] value = rw (
      c.in_ok-end_array.ensures,
      c.in_ok-write_fields.ensures,
      c.in_ok-write_numbers.ensures,
      c.in_ok-string.ensures,
      c.in_ok-begin_array.ensures,
      c.in_ok-out.ensures,
    ) (row_line-tokens kind c.args.places.now fields) in
    c.add.ensures value (c.into_bytes.ensures value tokens)

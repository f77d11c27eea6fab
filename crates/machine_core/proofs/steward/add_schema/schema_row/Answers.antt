use Rattle.std.proofs.Common.{refl}
use Rattle.machine_core.proofs.steward.add_schema.schema_row.Goals as goal

pub returns : goal.returns
returns c =
    let read = rw c.as_slice.ensures at c.in_ok-schema.ensures.finds in
    rw (
      read,
      c.in_ok-within.ensures.finds,
      c.next_version-version.ensures,
      c.as_str.ensures.text,
      c.in_ok-copy.ensures.copied,
    ) refl

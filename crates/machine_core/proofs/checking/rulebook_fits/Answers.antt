use Rattle.std.proofs.Common.{refl}
use Rattle.machine_core.proofs.checking.rulebook_fits.Goals as goal

pub returns : goal.returns
returns c =
    let read = rw c.as_slice.ensures at c.in_ok-rulebook.ensures.finds in
    rw (
      c.in_ok-row.ensures.row,
      c.in_ok-read.ensures.schema,
      read,
      c.in_ok-rule_names.ensures,
      c.as_slice-2.ensures,
    ) refl

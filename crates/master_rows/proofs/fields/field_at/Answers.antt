use Rattle.std.proofs.Common.{sym}
use Rattle.csv.specs.Records.{fields_of}
use Rattle.master_rows.proofs.Records.{field_at-some}
use Rattle.master_rows.proofs.fields.field_at.Goals as goal

pub unreachable-requires : goal.unreachable-requires
unreachable-requires c =
    field_at-some (fields_of c.args.source.now) c.args.place c.requires (sym (rw c.in-None.is at c.get.ensures.value))

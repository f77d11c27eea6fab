use Rattle.std.proofs.Common.{◌≡◌, take}
use Rattle.desk_base.specs.Texts.{bytes_of}
use Rattle.master_rows.proofs.print.header_fields.Given as goal

abbrev pub invariant-loop-column : goal.invariant-loop-column
invariant-loop-column l = bytes_of l.fields.items ≡ take l.column-index l.columns

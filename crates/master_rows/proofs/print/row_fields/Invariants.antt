use Rattle.std.proofs.Common.{◌≡◌, [], take}
use Rattle.std.specs.Prelude.{slice_index_or}
use Rattle.desk_base.specs.Texts.{bytes_of}
use Rattle.master_rows.proofs.print.row_fields.Given as goal

abbrev pub invariant-loop-column : goal.invariant-loop-column
invariant-loop-column l = bytes_of l.fields.items ≡ take l.column (slice_index_or l.grid.rows l.row [])

use Rattle.std.proofs.Common.{◌≡◌, [], drop}
use Rattle.desk_dump.specs.Dumps.{lines_from, table_lines}
use Rattle.desk_dump.specs.Writing.{with_lines}
use Rattle.desk_dump.proofs.dumping.write_table.Given as goal

-- what is written, with the lines of the rows that are left, is all that is to be written
abbrev pub invariant-rows : goal.invariant-rows
invariant-rows g l =
    with_lines l.text (lines_from l.kind g.R.DumpRow.fields [] l.place (drop l.place l.rows))
    ≡ with_lines l.fn.text (table_lines l.kind g.R.DumpRow.fields l.rows)

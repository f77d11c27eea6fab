use Rattle.std.proofs.Common.{◌≡◌, drop}
use Rattle.desk_words.specs.Tables.{lists_of}
use Rattle.desk_dump.specs.Dumps.{lists_from, lists_lines}
use Rattle.desk_dump.specs.Writing.{with_lines}
use Rattle.desk_dump.proofs.dumping.write_lists.Given as goal

-- what is written, with the lines of the lists that are left, is all that is to be written
abbrev pub invariant-lists : goal.invariant-lists
invariant-lists g l =
    with_lines l.text (lists_from l.kind g.R.DumpRow.fields l.clerk (drop l.clerk (lists_of l.lists)))
    ≡ with_lines l.fn.text (lists_lines l.kind g.R.DumpRow.fields (lists_of l.lists))

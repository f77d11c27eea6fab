use Rattle.std.proofs.Common.{◌≡◌, ◌-◌, map}
use Rattle.desk_words.specs.Tables.{lists_of}
use Rattle.desk_packing.specs.Lines.{line_of}
use Rattle.desk_packing.specs.Reading.{lists_in}
use Rattle.desk_packing.proofs.Items.{following}
use Rattle.desk_packing.proofs.unpacking.take_lists.Given as goal

abbrev pub invariant-clerks : goal.invariant-clerks
invariant-clerks g l =
    following (lists_of l.lists)
    (lists_in (g.T.TableRow.format_in l.is_old) l.kind l.clerk (l.clerks - l.clerk) (map line_of l.left))
    ≡ lists_in (g.T.TableRow.format_in l.is_old) l.kind 0 l.clerks (map line_of l.rows)

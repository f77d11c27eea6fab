use Rattle.std.proofs.Common.{◌≡◌, ◌<◌, ◌^◌, drop, length, map}
use Rattle.desk_packing.specs.Lines.{line_of}
use Rattle.desk_packing.specs.Reading.{list_in}
use Rattle.desk_packing.proofs.Items.{following}
use Rattle.desk_packing.proofs.unpacking.take_list.Given as goal

abbrev pub invariant-rows : goal.invariant-rows
invariant-rows g l = record {
  left : following l.items.items
      (list_in (g.T.TableRow.format_in l.is_old) l.kind l.owner l.place (map line_of (drop l.place l.rows)))
      ≡ list_in (g.T.TableRow.format_in l.is_old) l.kind l.owner 0 (map line_of l.rows);
  count : length l.items.items ≡ l.place;
  short : l.place < 2 ^ 31;
}

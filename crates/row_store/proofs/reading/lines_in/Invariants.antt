use Rattle.std.proofs.Common.{map, take}
use Rattle.std.specs.List.{AllZip}
use Rattle.desk_packing.specs.Lines.{line_of}
use Rattle.row_store.specs.Stored.{IsLineRow}
use Rattle.row_store.proofs.reading.lines_in.Given as goal

abbrev pub invariant-rows : goal.invariant-rows
invariant-rows l = AllZip IsLineRow (take l.row-index l.rows) (map line_of l.lines.items)

use Rattle.std.proofs.Common.{◌≡◌, ◌++◌, ◌↔◌, drop, map, take}
use Rattle.std.specs.List.{AllByRecursion}
use Rattle.desk_packing.specs.Lines.{line_of}
use Rattle.desk_packing.specs.Shapes.{FitLengths, FitsFields, grown_all, lines_of_changes}
use Rattle.desk_packing.proofs.shape.Shape.pack.Given as goal

abbrev pub invariant-changes : goal.invariant-changes
invariant-changes l = record {
  rows : map line_of l.rows ++ lines_of_changes l.shape (drop l.change-index l.change-items)
      ≡ lines_of_changes l.self l.change-items;
  shape : grown_all l.shape (drop l.change-index l.change-items) ≡ grown_all l.self l.change-items;
  fit : FitLengths l.shape (drop l.change-index l.change-items) ↔ FitLengths l.self l.change-items;
  fields : AllByRecursion FitsFields (take l.change-index l.change-items);
}

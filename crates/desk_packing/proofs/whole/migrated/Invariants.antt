use Rattle.std.proofs.Common.{◌≡◌, ◌++◌, drop, map, take}
use Rattle.std.specs.List.{AllByRecursion}
use Rattle.desk_words.specs.Tables.{rows_of}
use Rattle.desk_packing.specs.declared.kinds.TheConstants.{EDITIONS}
use Rattle.desk_packing.specs.Lines.{line_of}
use Rattle.desk_packing.specs.RowFormats.{edition}
use Rattle.desk_packing.specs.Shapes.{migration_lines}
use Rattle.desk_packing.specs.Stands.{list_lines}
use Rattle.desk_packing.proofs.whole.migrated.Given as goal

abbrev pub invariant-editions : goal.invariant-editions
invariant-editions l = record {
  rows : map line_of l.rows ++ list_lines edition EDITIONS 0 l.place (drop l.place l.row-items)
      ≡ migration_lines (rows_of l.tables);
  fit : AllByRecursion edition.Fits (take l.place l.row-items);
}

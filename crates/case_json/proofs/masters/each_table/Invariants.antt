use Rattle.std.proofs.Common.{◌≡◌, option_map, map, ◌++◌, length}
use Rattle.std.specs.Vec.Iter.{into_iter_items, into_iter_len}
use Rattle.serde_json.specs.View.{view}
use Rattle.case_json.specs.Masters.{table_in}
use Rattle.json_parts.specs.Parts.{each}
use Rattle.case_json.proofs.masters.each_table.Given as goal

abbrev pub invariant-tables : goal.invariant-tables
invariant-tables l = record {
  left : into_iter_len l.table-iterator ≡ length (into_iter_items l.table-iterator);
  same : each table_in (map view l.fn.tables.items)
      ≡ option_map (λ rest. l.grids ++ rest) (each table_in (map view (into_iter_items l.table-iterator)));
}

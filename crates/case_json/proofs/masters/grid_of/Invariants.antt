use Rattle.std.proofs.Common.{◌≡◌, ◌*◌, option_map, map, ◌++◌, length}
use Rattle.std.specs.Vec.Iter.{into_iter_items, into_iter_len}
use Rattle.desk_base.specs.Grid.{rows_of}
use Rattle.serde_json.specs.View.{view}
use Rattle.case_json.specs.Masters.{row_in}
use Rattle.json_parts.specs.Parts.{each}
use Rattle.case_json.proofs.masters.grid_of.Given as goal

abbrev pub invariant-rows : goal.invariant-rows
invariant-rows l = record {
  all : l.yielded ++ into_iter_items l.row-iterator ≡ l.fn.rows.items;
  left : into_iter_len l.row-iterator ≡ length (into_iter_items l.row-iterator);
  full : length l.cells ≡ length l.yielded * l.columns;
  same : each (row_in l.columns) (map view l.fn.rows.items)
      ≡ option_map (λ rest. rows_of l.columns (length l.yielded) l.cells ++ rest)
      (each (row_in l.columns) (map view (into_iter_items l.row-iterator)));
}

use Rattle.std.proofs.Common.{◌≡◌, ℕ, List, filter}
use Rattle.std.specs.List.{range_with_len}
use Rattle.master_index.specs.RowMap.{has_key, rows_at}
use Rattle.master_index.proofs.row_map.RowMap.build.Given as goal

abbrev pub invariant-rows : goal.invariant-rows
invariant-rows l = (key : List ℕ) → rows_at l.map key
    ≡ filter (has_key l.grid l.column l.folded key) (range_with_len 0 l.row)

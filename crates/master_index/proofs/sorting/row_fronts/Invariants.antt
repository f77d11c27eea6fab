use Rattle.std.proofs.Common.{◌≡◌, ◌<◌, ℕ, get_or, length}
use Rattle.fix_model.specs.Comparison.{row_key}
use Rattle.master_index.specs.Fronts.{IsKeyFront}
use Rattle.master_index.proofs.sorting.row_fronts.Given as goal

-- the rows so far have their fronts
abbrev pub invariant-rows : goal.invariant-rows
invariant-rows l = record {
  whole : length l.fronts.items ≡ l.row;
  each : (row : ℕ) → row < l.row → IsKeyFront (row_key l.kit l.rule row) (get_or l.fronts.items row 0);
}

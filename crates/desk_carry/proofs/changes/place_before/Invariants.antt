use Rattle.std.proofs.Common.{◌≡◌, ◌<◌, ℕ, Some, slice_get}
use Rattle.desk_words.specs.declared.view.ViewCell.{ViewCell}
use Rattle.desk_carry.proofs.changes.place_before.Given as goal

abbrev pub invariant-cells : goal.invariant-cells
invariant-cells l = (place : ℕ) (was : ViewCell) → place < l.place → slice_get l.before place ≡ Some was
    → was.name ≡ l.cell.name → was ≡ l.cell

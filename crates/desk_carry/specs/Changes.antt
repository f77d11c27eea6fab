-- Which cells of a view are shown otherwise in another.
use Rattle.std.specs.Prelude.{◌≡◌, ◌≢◌, ◌↔◌, ℕ, ◌<◌, List, AllPairs, Contains, Some, slice_get}
use Rattle.desk_words.specs.declared.view.View.{View}
use Rattle.desk_words.specs.declared.view.ViewCell.{ViewCell}

-- no two cells have one name
abbrev pub AreApart : List ViewCell → Type 0
AreApart cells = AllPairs (λ earlier later. earlier.name ≢ later.name) cells

-- the cells at these places have one name, and differ in the value or in how it came to be
pub record IsChanged (before after : List ViewCell) (old new : ℕ) : Type 0 where
  pub was : ViewCell
  pub is : ViewCell
  pub old_cell : slice_get before old ≡ Some was
  pub new_cell : slice_get after new ≡ Some is
  pub same_name : was.name ≡ is.name
  pub differs : was ≢ is

-- exactly the places of the cells that are shown otherwise, each with the place before, in the order of the cells after
pub record AreChanged (before after : View) (pairs : List (ℕ × ℕ)) : Type 0 where
  pub in_order : AllPairs (λ earlier later. earlier.1 < later.1) pairs
  pub each : (old new : ℕ) → Contains pairs (old, new) ↔ IsChanged before.cells after.cells old new

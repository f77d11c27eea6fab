-- Cells whose names all differ.
use Rattle.std.proofs.Common.{◌≡◌, ◌<◌, ◌∙◌, ℕ, List, Some, inl, inr, sym, ap, slice_get}
use Rattle.std.proofs.lemmas.Bool.{cases_order}
use Rattle.std.proofs.lemmas.Option.{slice_get_within, get_or_from_slice_get}
use Rattle.desk_words.specs.declared.view.ViewCell.{ViewCell}
use Rattle.desk_carry.specs.Changes.{AreApart}

-- of two places, the earlier one has another name
apart : (cells : List ViewCell) → AreApart cells → (one other : ℕ) (cell later : ViewCell)
    → slice_get cells one ≡ Some cell → slice_get cells other ≡ Some later → one < other → ¬ (cell.name ≡ later.name)
apart cells differ one other cell later at there before same =
    differ one other cell before (slice_get_within cells other later there)
    (ap (λ (c : ViewCell). c.name) (get_or_from_slice_get cells one cell cell at) ∙ same
    ∙ sym (ap (λ (c : ViewCell). c.name) (get_or_from_slice_get cells other later cell there)))

-- one name stands at one place
pub AreApart-same : (cells : List ViewCell) → AreApart cells → (one other : ℕ) (cell later : ViewCell)
    → slice_get cells one ≡ Some cell → slice_get cells other ≡ Some later → cell.name ≡ later.name → one ≡ other
AreApart-same cells differ one other cell later at there same = elim (cases_order one other) [
  | inl equal ↦ equal
  | inr (inl before) ↦ absurd (apart cells differ one other cell later at there before same)
  | inr (inr following) ↦ absurd (apart cells differ other one later cell there at following (sym same))
]

-- The pairs of changed cells, as far as the cells after were gone through.
use Rattle.std.proofs.Common.{◌≡◌, ◌≢◌, ◌<◌, ◌≤◌, ◌+◌, ◌∙◌, ◌++◌, ◌∷◌, [], ℕ, List, Some, inl, inr, sym, subst, ap}
use Rattle.std.proofs.Common.{slice_get, length, get_or, zero, suc, arith}
use Rattle.std.specs.Prelude.{AllPairs, Contains, ◌↔◌}
use Rattle.std.proofs.Math.Nat.{eq-or-lt_of_le}
use Rattle.std.proofs.lemmas.List.{get_or_default}
use Rattle.std.proofs.lemmas.List.Elements.{Contains-append_left, Contains-append_right, Contains-append_cases}
use Rattle.std.proofs.lemmas.List.Quantifiers.{all_pairs_push}
use Rattle.std.proofs.lemmas.Option.{slice_get_within}
use Rattle.desk_words.specs.declared.view.View.{View}
use Rattle.desk_words.specs.declared.view.ViewCell.{ViewCell}
use Rattle.desk_carry.specs.Changes.{AreApart, AreChanged, IsChanged}
use Rattle.desk_carry.proofs.Cells.{AreApart-same}

-- the pairs are those of the cells after before this place
pub record ArePairs (before after : List ViewCell) (count : ℕ) (pairs : List (ℕ × ℕ)) : Type 0 where
  pub in_order : AllPairs (λ earlier later. earlier.1 < later.1) pairs
  pub each : (old new : ℕ) → Contains pairs (old, new) ↔ ((new < count) × IsChanged before after old new)

-- the one item of a list
only : (item other : ℕ × ℕ) → Contains (item ∷ []) other → item ≡ other
only item other (zero, within, is) = is
only item other (suc place, within, is) = absurd (omega arith)

module _ (before after : List ViewCell) (apart : AreApart before) (count : ℕ) (pairs : List (ℕ × ℕ))
    (are : ArePairs before after count pairs) (cell : ViewCell) (at : slice_get after count ≡ Some cell) where
  -- no cell before is changed to it
  pub ArePairs-same : ((place : ℕ) (was : ViewCell) → slice_get before place ≡ Some was → was.name ≡ cell.name
      → was ≡ cell) → ArePairs before after (count + 1) pairs
  ArePairs-same same = record {
    in_order = are.in_order;
    each = λ old new. (
      λ there. let found = (are.each old new).0 there in (omega arith, found.1),
      λ (below, changed). elim (eq-or-lt_of_le (let up_to : new ≤ count = omega arith in up_to)) [
        | inr earlier ↦ (are.each old new).1 (earlier, changed)
        | inl here ↦ absurd (let is : changed.is ≡ cell = (let e : Some changed.is ≡ Some cell = sym changed.new_cell
            ∙ ap (slice_get after) here ∙ at in cc) in
            changed.differs (same old changed.was changed.old_cell
            (changed.same_name ∙ ap (λ (c : ViewCell). c.name) is) ∙ sym is))
      ],
    );
  }

  -- the cell before with its name is changed to it
  pub ArePairs-more : (place : ℕ) (was : ViewCell) → slice_get before place ≡ Some was → was.name ≡ cell.name
      → was ≢ cell → ArePairs before after (count + 1) (pairs ++ (place, count) ∷ [])
  ArePairs-more place was there_is named differs = record {
    in_order = all_pairs_push (λ (earlier later : ℕ × ℕ). earlier.1 < later.1) pairs (place, count) are.in_order
        (λ k d within.
        let pair : ℕ × ℕ = get_or pairs k d in
        ((are.each pair.0 pair.1).0 (k, within, get_or_default pairs k pair d within)).0);
    each = λ old new. (
      λ there. elim (Contains-append_cases pairs ((place, count) ∷ []) (old, new) there) [
        | inl earlier ↦ let found = (are.each old new).0 earlier in (omega arith, found.1)
        | inr last ↦
            let is : (place, count) ≡ (old, new) = only (place, count) (old, new) last in
            let one : place ≡ old = ap (λ (p : ℕ × ℕ). p.0) is in
            let two : count ≡ new = ap (λ (p : ℕ × ℕ). p.1) is in (
              omega arith,
              record {
                was = was;
                is = cell;
                old_cell = subst (λ (k : ℕ). slice_get before k ≡ Some was) one there_is;
                new_cell = subst (λ (k : ℕ). slice_get after k ≡ Some cell) two at;
                same_name = named;
                differs = differs;
              },
            )
      ],
      λ (below, changed). elim (eq-or-lt_of_le (let up_to : new ≤ count = omega arith in up_to)) [
        | inr earlier ↦ Contains-append_left pairs ((place, count) ∷ []) (old, new)
            ((are.each old new).1 (earlier, changed))
        | inl here ↦
            let is : changed.is ≡ cell = (let e : Some changed.is ≡ Some cell = sym changed.new_cell
            ∙ ap (slice_get after) here ∙ at in cc) in
            let seat : place ≡ old = AreApart-same before apart place old was changed.was there_is changed.old_cell
            (named ∙ sym (changed.same_name ∙ ap (λ (c : ViewCell). c.name) is)) in
            Contains-append_right pairs ((place, count) ∷ []) (old, new)
            (0, omega arith, λ i. (seat i, sym here i))
      ],
    );
  }

-- the pairs of all cells after
pub ArePairs-whole : (before after : View) (count : ℕ) (pairs : List (ℕ × ℕ)) → length after.cells ≤ count
    → ArePairs before.cells after.cells count pairs → AreChanged before after pairs
ArePairs-whole before after count pairs whole are = record {
  in_order = are.in_order;
  each = λ old new. (
    λ there. ((are.each old new).0 there).1,
    λ changed. (are.each old new).1
        (let within = slice_get_within after.cells new changed.is changed.new_cell in omega arith, changed),
  );
}

-- The derived rows, as far as the rows of a grid were gone through.
use Rattle.std.proofs.Common.{◌≡◌, ◌<◌, ◌≤◌, ◌+◌, ◌∙◌, ◌++◌, ◌∷◌, [], ℕ, zero, suc, List, inl, inr, sym, subst, ap}
use Rattle.std.proofs.Common.{length}
use Rattle.std.proofs.Common.{get_or, arith}
use Rattle.std.specs.Prelude.{AllPairs, Contains, ◌↔◌}
use Rattle.std.proofs.Math.Nat.{eq-or-lt_of_le}
use Rattle.std.proofs.lemmas.List.{get_or_default}
use Rattle.std.proofs.lemmas.List.Elements.{Contains-append_left, Contains-append_right, Contains-append_cases}
use Rattle.std.proofs.lemmas.List.Quantifiers.{all_pairs_push}
use Rattle.desk_base.specs.Grid.{GridRows}
use Rattle.fix_model.specs.declared.kit.Kit.{Kit}
use Rattle.region_derive.specs.Derived.{AreDerived, IsDerived, texts_in}

-- the derived rows before this one, in their order, each with its texts
pub record AreDerivedBefore (kit : Kit) (grid : GridRows) (attributes columns : List ℕ) (count : ℕ)
    (found : List (ℕ × List (List ℕ))) : Type 0 where
  pub in_order : AllPairs (λ earlier later. earlier.0 < later.0) found
  pub each : (row : ℕ) (texts : List (List ℕ)) → Contains found (row, texts)
      ↔ ((row < count) × IsDerived kit grid attributes columns row × (texts ≡ texts_in grid columns row))

-- the one item of a list
only : (item other : ℕ × List (List ℕ)) → Contains (item ∷ []) other → item ≡ other
only item other (zero, within, is) = is
only item other (suc place, within, is) = absurd (omega arith)

module _ (kit : Kit) (grid : GridRows) (attributes columns : List ℕ) (count : ℕ) (found : List (ℕ × List (List ℕ)))
    (are : AreDerivedBefore kit grid attributes columns count found) where
  -- a row that is not derived is passed over
  pub AreDerivedBefore-passed : ¬ IsDerived kit grid attributes columns count
      → AreDerivedBefore kit grid attributes columns (count + 1) found
  AreDerivedBefore-passed not_derived = record {
    in_order = are.in_order;
    each = λ row texts. (
      λ there. let (below, derived, is) = (are.each row texts).0 there in (omega arith, derived, is),
      λ (below, derived, is). elim (eq-or-lt_of_le (let up_to : row ≤ count = omega arith in up_to)) [
        | inr earlier ↦ (are.each row texts).1 (earlier, derived, is)
        | inl here ↦ absurd (not_derived (subst (IsDerived kit grid attributes columns) here derived))
      ],
    );
  }

  -- a derived row is added
  pub AreDerivedBefore-more : IsDerived kit grid attributes columns count
      → AreDerivedBefore kit grid attributes columns (count + 1) (found ++ (count, texts_in grid columns count) ∷ [])
  AreDerivedBefore-more here_derived = record {
    in_order = all_pairs_push (λ (earlier later : ℕ × List (List ℕ)). earlier.0 < later.0) found
        (count, texts_in grid columns count) are.in_order (λ k d within.
        let pair : ℕ × List (List ℕ) = get_or found k d in
        ((are.each pair.0 pair.1).0 (k, within, get_or_default found k pair d within)).0);
    each = λ row texts. (
      λ there. elim (Contains-append_cases found ((count, texts_in grid columns count) ∷ []) (row, texts) there) [
        | inl earlier ↦ let (below, derived, is) = (are.each row texts).0 earlier in (omega arith, derived, is)
        | inr last ↦
            let is : (count, texts_in grid columns count) ≡ (row, texts) = only _ (row, texts) last in
            let seat : count ≡ row = ap (λ (p : ℕ × List (List ℕ)). p.0) is in (
              omega arith,
              subst (IsDerived kit grid attributes columns) seat here_derived,
              sym (ap (λ (p : ℕ × List (List ℕ)). p.1) is) ∙ ap (texts_in grid columns) seat,
            )
      ],
      λ (below, derived, is). elim (eq-or-lt_of_le (let up_to : row ≤ count = omega arith in up_to)) [
        | inr earlier ↦ Contains-append_left found ((count, texts_in grid columns count) ∷ []) (row, texts)
            ((are.each row texts).1 (earlier, derived, is))
        | inl here ↦ let same : texts_in grid columns count ≡ texts = sym (is ∙ ap (texts_in grid columns) here) in
            Contains-append_right found ((count, texts_in grid columns count) ∷ []) (row, texts)
            (0, omega arith, λ i. (sym here i, same i))
      ],
    );
  }

  -- all derived rows are found
  pub AreDerivedBefore-whole : length grid.rows ≤ count → AreDerived kit grid attributes columns found
  AreDerivedBefore-whole whole = record {
    in_order = are.in_order;
    each = λ row texts. (
      λ there. let (below, derived, is) = (are.each row texts).0 there in (derived, is),
      λ (derived, is). (are.each row texts).1 (let within = derived.within in omega arith, derived, is),
    );
  }

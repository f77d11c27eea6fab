-- The order of two rows by their keys, and the usable rows one by one.
use Rattle.std.proofs.Common.{◌≡◌, ◌<◌, ◌≤◌, ◌+◌, ◌++◌, ◌∷◌, ◌∙◌, inl, inr, ℕ, List, [], length, refl, subst}
use Rattle.std.proofs.Common.{arith, length-append}
use Rattle.std.specs.Prelude.{All}
use Rattle.std.specs.List.{Contains}
use Rattle.std.specs.Cmp.Lexicographic.{slice_cmp}
use Rattle.std.specs.Ordering.{nat_cmp}
use Rattle.std.specs.declared.cmp.Ordering.{Ordering}
use Rattle.std.proofs.Math.Nat.{eq-or-lt_of_le}
use Rattle.std.proofs.lemmas.List.{get_or_default}
use Rattle.std.proofs.lemmas.List.Elements.{All-push, Contains-append_left, Contains-append_right}
use Rattle.fix_model.specs.declared.kit.Kit.{Kit}
use Rattle.fix_model.specs.declared.rule.Rule.{Rule}
use Rattle.fix_model.specs.Alike.{compared}
use Rattle.fix_model.specs.Application.{IsUsable}
use Rattle.fix_model.specs.Comparison.{key_order, row_key}
use Rattle.fix_model.specs.Rules.{is_folded, master_text}
use Rattle.fix_model.proofs.Order.{slice_cmp-map}
use Rattle.master_index.specs.Sorted.{AreSortedRows, StandsBefore}

-- the order of one row's cell at one key and another row's cell at another
abbrev pub at_rows : Kit → Rule → ℕ → ℕ → ℕ × ℕ → ℕ × ℕ → Ordering
at_rows kit rule row other key next = slice_cmp nat_cmp (compared (is_folded kit key.0)
    (master_text kit rule row key.1)) (compared (is_folded kit next.0) (master_text kit rule other next.1))

-- the keys of two rows are ordered key by key
pub key_order-at_rows : (kit : Kit) (rule : Rule) (row other : ℕ)
    → key_order (row_key kit rule row) (row_key kit rule other)
    ≡ slice_cmp (at_rows kit rule row other) rule.keys rule.keys
key_order-at_rows kit rule row other = slice_cmp-map (slice_cmp nat_cmp)
    (λ (key : ℕ × ℕ). compared (is_folded kit key.0) (master_text kit rule row key.1))
    (λ (key : ℕ × ℕ). compared (is_folded kit key.0) (master_text kit rule other key.1)) rule.keys rule.keys

-- the usable ones of the first rows
pub record AreUsableBefore (kit : Kit) (rule : Rule) (count : ℕ) (rows : List ℕ) : Type 0 where
  pub usable : All (IsUsable kit rule) rows
  pub whole : (row : ℕ) → row < count → IsUsable kit rule row → Contains rows row
  pub few : length rows ≤ count

module _ (kit : Kit) (rule : Rule) (count : ℕ) (rows : List ℕ) (are : AreUsableBefore kit rule count rows) where
  -- the next row is added where it is usable
  pub AreUsableBefore-push : IsUsable kit rule count → AreUsableBefore kit rule (count + 1) (rows ++ count ∷ [])
  AreUsableBefore-push usable = record {
    usable = All-push (IsUsable kit rule) rows count are.usable usable;
    whole = λ row below is. elim (eq-or-lt_of_le (let up_to : row ≤ count = omega arith in up_to)) [
      | inl here ↦ rw here (Contains-append_right rows (count ∷ []) count (0, omega arith, refl))
      | inr before ↦ Contains-append_left rows (count ∷ []) row (are.whole row before is)
    ];
    few = omega (arith, length-append rows (count ∷ []), are.few);
  }

  -- and passed over where it is not
  pub AreUsableBefore-pass : ¬ IsUsable kit rule count → AreUsableBefore kit rule (count + 1) rows
  AreUsableBefore-pass unusable = record {
    usable = are.usable;
    whole = λ row below is. elim (eq-or-lt_of_le (let up_to : row ≤ count = omega arith in up_to)) [
      | inl here ↦ absurd (unusable (subst (IsUsable kit rule) here is))
      | inr before ↦ are.whole row before is
    ];
    few = omega (arith, are.few);
  }

module _ (kit : Kit) (rule : Rule) (rows : List ℕ) (are : AreSortedRows kit rule rows) where
  -- the rows that stand in the whole list are the usable ones
  pub IsUsable-stands : (row : ℕ) → StandsBefore rows (length rows) row → IsUsable kit rule row
  IsUsable-stands row (place, within, is) = subst (IsUsable kit rule) is (are.usable place 0 within)

  -- and back
  pub StandsBefore-usable : (row : ℕ) → IsUsable kit rule row → StandsBefore rows (length rows) row
  StandsBefore-usable row usable =
      let (place, within, is) = are.whole row usable in
      (place, within, get_or_default rows place 0 row within ∙ is)

-- Which texts have come before a row, and when a row is derived.
use Rattle.std.proofs.Common.{◌≡◌, ◌≢◌, ◌<◌, ◌≤◌, ◌+◌, ◌∙◌, ◌||◌, ◌⊎◌, ℕ, Bool, true, false, not, List, IsTrue, inl}
use Rattle.std.proofs.Common.{inr}
use Rattle.std.proofs.Common.{refl, sym, subst, ap, arith}
use Rattle.std.specs.Prelude.{◌↔◌}
use Rattle.std.specs.Cmp.Lexicographic.{bytes_decides, pointwise_decides}
use Rattle.std.proofs.Math.Nat.{eq-or-lt_of_le}
use Rattle.desk_base.proofs.Bools.{or-second}
use Rattle.desk_base.specs.Grid.{GridRows}
use Rattle.fix_model.specs.declared.kit.Kit.{Kit}
use Rattle.region_derive.specs.Derived.{IsDerived, texts_in}
use Rattle.region_derive.specs.Seen.{are_same}

-- exactly the texts of the rows before this one have come
abbrev pub HaveCome : GridRows → List ℕ → ℕ → (List (List ℕ) → Bool) → Type 0
HaveCome grid columns count come = (texts : List (List ℕ))
    → IsTrue (come texts) ↔ ((earlier : ℕ) × (earlier < count) × (texts_in grid columns earlier ≡ texts))

-- one of two tests passes
or-cases : (one other : Bool) → IsTrue (one || other) → IsTrue one ⊎ IsTrue other
or-cases true other is = inl is
or-cases false other is = inr is

or-left : (one other : Bool) → IsTrue one → IsTrue (one || other)
or-left true other is = is
or-left false other is = absurd cc

-- lists of texts are the same where the test says so
pub are_same-is : (texts others : List (List ℕ)) → IsTrue (are_same texts others) ↔ (texts ≡ others)
are_same-is texts others = pointwise_decides bytes_decides texts others

module _ (grid : GridRows) (columns : List ℕ) (count : ℕ) (old new : List (List ℕ) → Bool)
    (come : HaveCome grid columns count old) where
  -- one row more
  pub HaveCome-next : ((other : List (List ℕ))
      → new other ≡ (are_same other (texts_in grid columns count) || old other))
      → HaveCome grid columns (count + 1) new
  HaveCome-next kept texts = (
    λ is. elim (or-cases (are_same texts (texts_in grid columns count)) (old texts) (subst IsTrue (kept texts) is)) [
      | inl same ↦ (count, omega arith, sym ((are_same-is texts (texts_in grid columns count)).0 same))
      | inr before ↦ let (earlier, below, is) = (come texts).0 before in (earlier, omega arith, is)
    ],
    λ (earlier, below, is). subst IsTrue (sym (kept texts))
        (elim (eq-or-lt_of_le (let up_to : earlier ≤ count = omega arith in up_to)) [
          | inr before ↦ or-second (are_same texts (texts_in grid columns count)) (old texts)
              ((come texts).1 (earlier, before, is))
          | inl here ↦ or-left (are_same texts (texts_in grid columns count)) (old texts)
              ((are_same-is texts (texts_in grid columns count)).1 (sym is ∙ ap (texts_in grid columns) here))
        ]),
  )

  -- where the texts of the row have not come, no earlier row has them
  pub first_here : (is_new : Bool) → is_new ≡ not (old (texts_in grid columns count)) → is_new ≡ true → (earlier : ℕ)
      → earlier < count → texts_in grid columns earlier ≢ texts_in grid columns count
  first_here is_new told new_is earlier before same =
      let there : IsTrue (old (texts_in grid columns count)) =
      (come (texts_in grid columns count)).1 (earlier, before, same) in
      let no : not (old (texts_in grid columns count)) ≡ false = ap not there in
      cc

  -- where they have come, the row is not derived
  pub not_first : (kit : Kit) (attributes : List ℕ) (is_new : Bool) → is_new ≡ not (old (texts_in grid columns count))
      → is_new ≡ false → ¬ IsDerived kit grid attributes columns count
  not_first kit attributes is_new told old_is derived =
      let there : IsTrue (old (texts_in grid columns count)) =
      is_seen (old (texts_in grid columns count)) (sym told ∙ old_is) in
      let (earlier, below, is) = (come (texts_in grid columns count)).0 there in
      derived.first earlier below is
    where
      is_seen : (come : Bool) → not come ≡ false → IsTrue come
      is_seen true is = refl
      is_seen false is = cc

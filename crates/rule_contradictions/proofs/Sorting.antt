-- Contradictions that are sorted by their first rows.
use Rattle.std.proofs.Common.{◌≡◌, ◌≢◌, ◌<◌, ◌⊎◌, ◌∙◌, ℕ, inl, inr, List, length, get_or, ap, sym, refl, arith}
use Rattle.std.specs.Prelude.{AllPairs}
use Rattle.std.specs.List.{swap}
use Rattle.std.specs.List.Sorted.{IsNonDecreasingBy, IsPermutation}
use Rattle.std.proofs.lemmas.Bool.{cases_eq}
use Rattle.std.proofs.lemmas.List.Edits.{Swapped, length-swap, swapped_from_swap}
use Rattle.std.proofs.lemmas.List.Sorted.{Contains-permutation, IsPermutation-keeps, IsPermutation-sym}
use Rattle.fix_model.specs.declared.kit.Kit.{Kit}
use Rattle.fix_model.specs.declared.rule.Rule.{Rule}
use Rattle.rule_contradictions.specs.declared.contradiction.Contradiction.{Contradiction}
use Rattle.rule_contradictions.specs.Contradictions.{AreContradictions}
use Rattle.rule_contradictions.specs.Gathered.{AreGathered}

module _ {A : Type 0} (number : A → ℕ) where
  -- items that differ in their numbers
  abbrev AreApart : List A → Type 0
  AreApart items = AllPairs (λ one other. number one ≢ number other) items

  -- two of them with one number stand at one place
  one_place : (items : List A) → AreApart items → (i j : ℕ) (d : A) → i < length items → j < length items
      → number (get_or items i d) ≡ number (get_or items j d) → i ≡ j
  one_place items apart i j d within inside same =
      let not_below : ¬ (i < j) = λ less. apart i j d less inside same in
      let not_above : ¬ (j < i) = λ less. apart j i d less within (sym same) in
      omega arith

  -- where an exchange took an item from
  abbrev CameFrom : ℕ → ℕ → ℕ → ℕ → Type 0
  CameFrom a b m k = ((m ≡ a) × (k ≡ b)) ⊎ (((m ≡ b) × (k ≡ a)) ⊎ ((m ≢ a) × (m ≢ b) × (k ≡ m)))

  origin : (f g : ℕ → A) (a b m : ℕ) → Swapped f g a b → (m ≡ a) ⊎ (m ≢ a) → (m ≡ b) ⊎ (m ≢ b)
      → (k : ℕ) × CameFrom a b m k × (g m ≡ f k)
  origin f g a b m swapped (inl is) second = (b, inl (is, refl), ap g is ∙ swapped.0)
  origin f g a b m swapped (inr differs) (inl is) = (a, inr (inl (is, refl)), ap g is ∙ swapped.1)
  origin f g a b m swapped (inr differs) (inr other) =
      (m, inr (inr (differs, other, refl)), swapped.2 m differs other)

  -- an exchange leaves them different
  apart-swap : (items : List A) (a b : ℕ) → a < length items → b < length items → AreApart items
      → AreApart (swap items a b)
  apart-swap items a b within inside apart i j d less below same =
      let size = length-swap items a b in
      let swapped = swapped_from_swap items (swap items a b) a b d within inside refl in
      let one = origin _ _ a b i swapped (cases_eq i a) (cases_eq i b) in
      let other = origin _ _ a b j swapped (cases_eq j a) (cases_eq j b) in
      let place = one_place items apart one.0 other.0 d (omega (arith, one.1, size)) (omega (arith, other.1, size))
      (sym (ap number one.2) ∙ same ∙ ap number other.2) in
      absurd (omega (arith, one.1, other.1))

  -- so does any other order
  pub apart-permutation : (items others : List A) → IsPermutation items others → AreApart items → AreApart others
  apart-permutation items others moved apart =
      IsPermutation-keeps items AreApart apart apart-swap others moved

  -- and where they do not fall they rise
  pub rising : (items : List A) → IsNonDecreasingBy number items → AreApart items
      → AllPairs (λ one later. number one < number later) items
  rising items sorted apart i j d less within =
      let up_to = sorted i j d (omega (arith, less)) within in
      let differ = apart i j d less within in
      omega (arith, up_to, differ)

-- what was gathered is the list of contradictions once it is sorted
pub AreContradictions-sorted : (kit : Kit) (rule : Rule) (found sorted : List Contradiction)
    → AreGathered kit rule found → IsPermutation found sorted → IsNonDecreasingBy (λ it. it.row) sorted
    → AreContradictions kit rule sorted
AreContradictions-sorted kit rule found sorted are moved up = record {
  in_order = rising (λ (it : Contradiction). it.row) sorted up
      (apart-permutation (λ (it : Contradiction). it.row) found sorted moved are.apart);
  each = λ it. (
    λ there. (are.each it).0 (Contains-permutation sorted found it (IsPermutation-sym found sorted moved) there),
    λ is. Contains-permutation found sorted it moved ((are.each it).1 is),
  );
}

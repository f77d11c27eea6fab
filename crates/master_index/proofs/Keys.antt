-- Maps whose keys are lists of bytes.
use Rattle.std.proofs.Common.{◌≡◌, ◌∙◌, ◌++◌, ◌∷◌, [], ℕ, List, true, false, inl, inr, cond, sym, ap, subst, Vec}
use Rattle.std.proofs.Common.{vec_len}
use Rattle.std.specs.Prelude.{Option, Some, None}
use Rattle.std.specs.declared.cmp.Ordering.{Ordering}
use Rattle.std.specs.BTreeMap.{BTreeMap, UpdatesBy, get_by, is_at}
use Rattle.std.specs.Cmp.{eq_by_cmp_equiv}
use Rattle.std.specs.Cmp.Lexicographic.{slice_cmp, nat_list_cmp_total, bytes_decides}
use Rattle.std.specs.Map.{KeepsOthers, lookup}
use Rattle.std.specs.Option.{UnwrapsOrElse, option_map_or}
use Rattle.std.specs.Ordering.{nat_cmp, is_eq, eq_by_cmp}
use Rattle.std.specs.Str.{bytes_eq}
use Rattle.std.proofs.lemmas.Bool.{cases_Bool, cond-true, cond-false}
use Rattle.std.proofs.lemmas.Cmp.{nat_list_eq_equiv}
use Rattle.std.proofs.lemmas.Map.Text.{is_eq-slice_cmp}

-- the order of keys by their bytes
abbrev key_cmp : {Z : Type 0} → Vec ℕ Z → Vec ℕ Z → Ordering
key_cmp key other = slice_cmp nat_cmp key.items other.items

-- of three keys, two that are equal differ alike from the third
apart : (bytes other held : List ℕ) → bytes_eq bytes other ≡ false → is_eq (slice_cmp nat_cmp bytes held) ≡ true
    → is_eq (slice_cmp nat_cmp other held) ≡ false
apart bytes other held differ same = is_eq-slice_cmp other held ∙ nat_list_eq_equiv.symm other held
    ∙ sym (nat_list_eq_equiv.congr bytes held other (sym (is_eq-slice_cmp bytes held) ∙ same)) ∙ differ

module _ {X Z : Type 0} where
  -- the value at these bytes
  abbrev at : BTreeMap (Vec ℕ Z) X → List ℕ → Option X
  at map bytes = get_by (λ held. slice_cmp nat_cmp bytes held.items) map

  -- at other bytes all stays
  others_stay : (bytes other : List ℕ) (old new : BTreeMap (Vec ℕ Z) X)
      → KeepsOthers (eq_by_cmp key_cmp) (λ held. is_eq (slice_cmp nat_cmp bytes held.items)) old.entries new.entries
      → bytes_eq bytes other ≡ false → at new other ≡ at old other
  unfolding KeepsOthers
  others_stay bytes other old new keeps differ =
      keeps (λ held. is_eq (slice_cmp nat_cmp other held.items))
      (λ x y same. (eq_by_cmp_equiv nat_list_cmp_total).congr other x.items y.items same)
      (λ held same. apart bytes other held.items differ same)

  -- after a change at some bytes there is the new value there, and the old one elsewhere
  pub at-updates : (bytes : List ℕ) (old new : BTreeMap (Vec ℕ Z) X) (value : Option X)
      → UpdatesBy key_cmp (λ held. slice_cmp nat_cmp bytes held.items) old new value → (other : List ℕ) → at new other
      ≡ cond (bytes_eq bytes other) value (at old other)
  at-updates bytes old new value (kept, there, within, others) other = elim (cases_Bool (bytes_eq bytes other)) [
    | inl same ↦ subst (λ (l : List ℕ). at new l ≡ value) ((bytes_decides bytes other).0 same) there
        ∙ sym (cond-true (bytes_eq bytes other) value (at old other) same)
    | inr differ ↦ others_stay bytes other old new others differ
        ∙ sym (cond-false (bytes_eq bytes other) value (at old other) differ)
  ]

module _ {Z : Type 0} where
  -- the numbers that entries hold at these bytes, none where there is no entry
  abbrev numbers_at : List (Vec ℕ Z × Vec ℕ Z) → List ℕ → List ℕ
  numbers_at entries bytes = option_map_or (λ numbers. numbers.items)
      (lookup (is_at (λ held. slice_cmp nat_cmp bytes held.items)) entries) []

  -- what an entry lends is what the map holds there, or empty
  lent_numbers : (held : Option (Vec ℕ Z)) (lent : Vec ℕ Z)
      → UnwrapsOrElse held (λ made. (made.items ≡ []) × (vec_len made ≡ 0)) lent → lent.items
      ≡ option_map_or (λ numbers. numbers.items) held []
  lent_numbers None lent is = is.0
  lent_numbers (Some held) lent is = ap (λ numbers. numbers.items) is

  -- a number that is pushed through an entry stands after those at its key, and nowhere else
  pub numbers_at-pushed : (old now : BTreeMap (Vec ℕ Z) (Vec ℕ Z)) (next : List (Vec ℕ Z × Vec ℕ Z))
      (key lent pushed : Vec ℕ Z) (number : ℕ) → UpdatesBy key_cmp (key_cmp key) old now (Some pushed) → next
      ≡ now.entries → UnwrapsOrElse (at old key.items) (λ made. (made.items ≡ []) × (vec_len made ≡ 0)) lent
      → pushed.items ≡ lent.items ++ number ∷ [] → (other : List ℕ) → numbers_at next other
      ≡ cond (bytes_eq other key.items) (numbers_at old.entries other ++ number ∷ []) (numbers_at old.entries other)
  numbers_at-pushed old now next key lent pushed number updates is lends grown other =
      let there = at-updates key.items old now (Some pushed) updates other in
      rw is (elim (cases_Bool (bytes_eq key.items other)) [
        | inl same ↦
            let here : key.items ≡ other = (bytes_decides key.items other).0 same in
            let shown : numbers_at now.entries other
            ≡ pushed.items = ap (λ held. option_map_or (λ numbers. numbers.items) held [])
            (there ∙ cond-true (bytes_eq key.items other) (Some pushed) (at old other) same) in
            let before : lent.items ≡ numbers_at old.entries other = lent_numbers (at old key.items) lent lends
            ∙ ap (numbers_at old.entries) here in
            shown ∙ grown ∙ ap (λ l. l ++ number ∷ []) before
            ∙ sym (cond-true (bytes_eq other key.items) (numbers_at old.entries other ++ number ∷ [])
            (numbers_at old.entries other) (nat_list_eq_equiv.symm other key.items ∙ same))
        | inr differ ↦
            let shown : numbers_at now.entries other
            ≡ numbers_at old.entries other = ap (λ held. option_map_or (λ numbers. numbers.items) held [])
            (there ∙ cond-false (bytes_eq key.items other) (Some pushed) (at old other) differ) in
            shown ∙ sym (cond-false (bytes_eq other key.items) (numbers_at old.entries other ++ number ∷ [])
            (numbers_at old.entries other) (nat_list_eq_equiv.symm other key.items ∙ differ))
      ])

-- What stands on the shelf after an edition was brought to its front, or put there.
use Rattle.std.proofs.Common.{◌≡◌, ◌∙◌, ◌-◌, ℕ, nat_eq, true, List, [], ◌∷◌, Option, Some, None, inl, inr, refl}
use Rattle.std.proofs.Common.{subst, ap, sym, take, eq-eqb}
use Rattle.std.specs.Prelude.{All, IfSome, OnErr, OnOk, Result, Ok, Err, is_some, slice_get}
use Rattle.std.specs.Map.{lookup, lookup_entry, remove_entry}
use Rattle.std.specs.Option.{option_map_or}
use Rattle.std.proofs.lemmas.Bool.{cases_Bool, eqb-true}
use Rattle.std.proofs.lemmas.Option.{same_Some}
use Rattle.std.proofs.lemmas.List.Elements.{All-cons, All-head, All-tail, All-take}
use Rattle.master_index.specs.declared.shelf.Shelved.{Shelved}
use Rattle.master_index.specs.declared.shelf.TheConstants.{MAX_HELD}
use Rattle.master_index.specs.Held.{brought_first, put_first}
use Rattle.desk_words.specs.Tables.{Published}
use Rattle.desk_valid.specs.Bindings.{bound_at}
use Rattle.machine_core.specs.Shelves.{AreHeld, IsFirst, bound_on}

module _ (P : ℕ × Shelved → Type 0) (edition : ℕ) where
  -- what is found is good, and that of the edition
  abbrev Found : Option (ℕ × Shelved) → Type 0
  Found found = IfSome found (λ pair. P pair × (pair.0 ≡ edition))

  found-entry : (held : List (ℕ × Shelved)) → All P held → Found (lookup_entry (nat_eq edition) held)
  found-entry [] all = tt
  found-entry (pair ∷ rest) all = elim (cases_Bool (nat_eq edition pair.0)) [
    | inl here ↦ rw here (All-head P pair rest all, sym (eqb-true edition pair.0 here))
    | inr other ↦ rw other (found-entry rest (All-tail P pair rest all))
  ]

  others-stay : (held : List (ℕ × Shelved)) → All P held → All P (remove_entry (nat_eq edition) held)
  others-stay [] all = all
  others-stay (pair ∷ rest) all = elim (cases_Bool (nat_eq edition pair.0)) [
    | inl here ↦ rw here (All-tail P pair rest all)
    | inr other ↦ rw other (All-cons P pair (remove_entry (nat_eq edition) rest) (All-head P pair rest all)
        (others-stay rest (All-tail P pair rest all)))
  ]

  brought : (found : Option (ℕ × Shelved)) (held : List (ℕ × Shelved)) → Found found → All P held
      → All P (option_map_or (λ pair. pair ∷ remove_entry (nat_eq edition) held) found held)
  brought None held good all = all
  brought (Some pair) held good all =
      All-cons P pair (remove_entry (nat_eq edition) held) good.0 (others-stay held all)

  -- what is held stays good where an edition is brought to the front
  pub All-brought : (held : List (ℕ × Shelved)) → All P held → All P (brought_first edition held)
  All-brought held all = brought (lookup_entry (nat_eq edition) held) held (found-entry held all) all

  placed : (found : Option (ℕ × Shelved)) (held : List (ℕ × Shelved)) (shelved : Shelved) → Found found → All P held
      → P (edition, shelved)
      → All P (option_map_or (λ pair. (pair.0, shelved) ∷ remove_entry (nat_eq edition) held)
      found ((edition, shelved) ∷ take (MAX_HELD - 1) held))
  placed None held shelved good all is =
      All-cons P (edition, shelved) (take (MAX_HELD - 1) held) is (All-take P (MAX_HELD - 1) held all)
  placed (Some pair) held shelved good all is =
      let here : P (pair.0, shelved) = subst (λ one. P (one, shelved)) (sym good.1) is in
      All-cons P (pair.0, shelved) (remove_entry (nat_eq edition) held) here (others-stay held all)

  -- and where a good book is put there
  pub All-put : (held : List (ℕ × Shelved)) (shelved : Shelved) → All P held → P (edition, shelved)
      → All P (put_first edition shelved held)
  All-put held shelved all is = placed (lookup_entry (nat_eq edition) held) held shelved (found-entry held all) all is

  brought-front : (held : List (ℕ × Shelved)) → All P held → is_some (lookup (nat_eq edition) held) ≡ true
      → (pair : ℕ × Shelved) × (lookup_entry (nat_eq edition) held ≡ Some pair) × (pair.0 ≡ edition)
  brought-front [] all is = absurd (cc)
  brought-front (pair ∷ rest) all is = elim (cases_Bool (nat_eq edition pair.0)) [
    | inl here ↦ (pair, rw here refl, sym (eqb-true edition pair.0 here))
    | inr other ↦ (let there = brought-front rest (All-tail P pair rest all) (rw other at is) in
        (there.0, rw other there.1, there.2))
  ]

  -- an edition that is held stands first once it is brought there
  pub IsFirst-brought : (held : List (ℕ × Shelved)) → All P held → is_some (lookup (nat_eq edition) held) ≡ true
      → IsFirst edition (brought_first edition held)
  IsFirst-brought held all is =
      let there = brought-front held all is in
      rw there.1 (ap Some there.2)

  put-front : (found : Option (ℕ × Shelved)) (held : List (ℕ × Shelved)) (shelved : Shelved) → Found found
      → IsFirst edition (option_map_or (λ pair. (pair.0, shelved) ∷ remove_entry (nat_eq edition) held) found
      ((edition, shelved) ∷ take (MAX_HELD - 1) held))
  put-front None held shelved good = refl
  put-front (Some pair) held shelved good = ap Some good.1

  -- and so does one that is put there
  pub IsFirst-put : (held : List (ℕ × Shelved)) (shelved : Shelved) → All P held
      → IsFirst edition (put_first edition shelved held)
  IsFirst-put held shelved all = put-front (lookup_entry (nat_eq edition) held) held shelved (found-entry held all)

  -- what is held stays good where a good book was to be put, be there memory or not
  pub All-after_put : {E : Type 0} (result : Result (Unit {0}) E) (new held : List (ℕ × Shelved)) (shelved : Shelved)
      → OnOk result (new ≡ put_first edition shelved held) → OnErr result (new ≡ held) → All P held
      → P (edition, shelved) → All P new
  All-after_put (Ok done) new held shelved put stays all is = rw put (All-put held shelved all is)
  All-after_put (Err fault) new held shelved put stays all is = rw stays all

-- the first edition on a shelf is held
pub held-first : (edition : ℕ) (held : List (ℕ × Shelved)) → IsFirst edition held
    → is_some (lookup (nat_eq edition) held) ≡ true
held-first edition [] first = absurd (cc)
held-first edition (pair ∷ rest) first =
    let same : pair.0 ≡ edition = same_Some pair.0 edition first in
    rw (eq-eqb edition pair.0 (sym same)) refl

-- and what is found of it is what stands there
pub found-first : (edition : ℕ) (held : List (ℕ × Shelved)) (shelved : Shelved) → IsFirst edition held
    → lookup (nat_eq edition) held ≡ Some shelved → slice_get held 0 ≡ Some (edition, shelved)
found-first edition [] shelved first is = absurd (cc)
found-first edition (pair ∷ rest) shelved first is =
    let same : pair.0 ≡ edition = same_Some pair.0 edition first in
    let found : pair.1 ≡ shelved = same_Some pair.1 shelved (rw (eq-eqb edition pair.0 (sym same)) at is) in
    λ i. Some (same i, found i)

-- a book that is held is that of its edition
pub bound-held : (published : Published) (edition : ℕ) (held : List (ℕ × Shelved)) (shelved : Shelved)
    → AreHeld published held → lookup (nat_eq edition) held ≡ Some shelved
    → bound_at published edition ≡ Some (bound_on shelved)
bound-held published edition [] shelved are is = absurd (cc)
bound-held published edition (pair ∷ rest) shelved are is =
    let Good : ℕ × Shelved → Type 0 = λ one. bound_at published one.0 ≡ Some (bound_on one.1) in
    elim (cases_Bool (nat_eq edition pair.0)) [
      | inl here ↦
          let same : pair.1 ≡ shelved = same_Some pair.1 shelved (rw here at is) in
          ap (bound_at published) (eqb-true edition pair.0 here) ∙ All-head Good pair rest are
          ∙ ap (λ one. Some (bound_on one)) same
      | inr other ↦ bound-held published edition rest shelved (All-tail Good pair rest are) (rw other at is)
    ]

-- No attribute is unknown twice.
use Rattle.std.proofs.Common.{◌≡◌, ◌≢◌, ◌-◌, ◌∙◌, ◌++◌, ◌∷◌, [], ℕ, inl, inr, List, Bool, true, ap}
use Rattle.std.proofs.Common.{refl, map, filter, length, get_or, arith, length-append}
use Rattle.std.specs.Prelude.{All, AllPairs, not, ◌==◌}
use Rattle.std.proofs.lemmas.Bool.{cases_lt, eq-eqb}
use Rattle.std.proofs.lemmas.List.{get_or-append_right, get_or-map, get_or_append_left, length-map}
use Rattle.std.proofs.lemmas.List.Elements.{All-filter, All-map, filter_passes}
use Rattle.std.proofs.lemmas.List.Folds.{list_any_at}
use Rattle.std.proofs.lemmas.List.Kept.{AllPairs-filter}
use Rattle.fix_model.specs.declared.pattern.Pat.{Pat}
use Rattle.fix_model.specs.declared.rule.Rule.{Rule}
use Rattle.fix_model.specs.declared.kit.Kit.{Kit}
use Rattle.fix_model.specs.declared.state.State.{State}
use Rattle.fix_model.specs.Valid.{IsValidRule}
use Rattle.fix_blockers.specs.Blockers.{is_key, is_uncovered, key_attributes, other_attributes, unknown}

-- numbers that differ in pairs
abbrev AreApart : List ℕ → Type 0
AreApart numbers = AllPairs (λ one later. one ≢ later) numbers

-- the numbers of items that differ in theirs
apart-map : {A : Type 0} (number : A → ℕ) (items : List A) → AllPairs (λ one later. number one ≢ number later) items
    → AreApart (map number items)
apart-map number [] apart = λ i j d before within. absurd (omega arith)
apart-map number (item ∷ items) apart = λ i j d before within.
    let size = length-map (item ∷ items) number in
    rw (
      get_or-map number (item ∷ items) i item d (omega (arith, before, within, size)),
      get_or-map number (item ∷ items) j item d (omega (arith, within, size)),
    )
    (apart i j item before (omega (arith, within, size)))

-- two lists of numbers make one, where none of the one is among the other
apart-append : (ones others : List ℕ) → AreApart ones → AreApart others
    → All (λ one. All (λ other. one ≢ other) others) ones → AreApart (ones ++ others)
apart-append ones others apart aparts across = λ i j d before within.
    let size = length-append ones others in
    elim (cases_lt j (length ones)) [
      | inl both ↦ rw (
        get_or_append_left ones others d i (omega (arith, before, both)),
        get_or_append_left ones others d j both,
      ) (apart i j d before both)
      | inr second ↦ elim (cases_lt i (length ones)) [
        | inl first ↦ rw (
          get_or_append_left ones others d i first,
          get_or-append_right ones others (length ones) j d refl second,
        )
            (across i d first (j - length ones) d (omega (arith, within, size, second)))
        | inr neither ↦ rw (
          get_or-append_right ones others (length ones) i d refl neither,
          get_or-append_right ones others (length ones) j d refl second,
        )
            (aparts (i - length ones) (j - length ones) d (omega (arith, before, neither))
            (omega (arith, within, size, second)))
      ]
    ]

-- in a valid rule no attribute is unknown twice
pub unknown-apart : (kit : Kit) (state : State) (rule : Rule) → IsValidRule kit rule → AreApart (unknown state rule)
unknown-apart kit state rule valid =
    let differ = λ (one later : ℕ). one ≢ later in
    let test = is_uncovered state in
    let other : ℕ → Bool = λ attribute. not (is_key rule attribute) in
    let conds = map (λ (cond : ℕ × Pat). cond.0) rule.conds in
    let P = λ (attribute : ℕ). is_key rule attribute ≡ true in
    let Q = λ (attribute : ℕ). other attribute ≡ true in
    let keys_are : All P (filter test (key_attributes rule)) = All-filter test P (key_attributes rule)
    (All-map P (λ (key : ℕ × ℕ). key.0) rule.keys (λ k d within.
    list_any_at (λ (key : ℕ × ℕ). key.0 == (get_or rule.keys k d).0) rule.keys k d within
    (eq-eqb (get_or rule.keys k d).0 (get_or rule.keys k d).0 refl))) in
    let others_are : All Q (filter test (other_attributes rule)) = All-filter test Q (other_attributes rule)
    (filter_passes other conds) in
    apart-append (filter test (key_attributes rule)) (filter test (other_attributes rule))
    (AllPairs-filter differ test (key_attributes rule)
    (apart-map (λ (key : ℕ × ℕ). key.0) rule.keys valid.keys.distinct))
    (AllPairs-filter differ test (other_attributes rule) (AllPairs-filter differ other conds
    (apart-map (λ (cond : ℕ × Pat). cond.0) rule.conds valid.conds.distinct)))
    (λ k d within j e below same.
    let is : is_key rule (get_or (filter test (key_attributes rule)) k d) ≡ true = keys_are k d within in
    let is_not = others_are j e below in
    let clash : not (is_key rule (get_or (filter test (key_attributes rule)) k d)) ≡ true =
    ap other same ∙ is_not in
    cc)

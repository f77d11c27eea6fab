-- Whether a step fires can be decided, so a run that is not maximal goes on.
use Rattle.std.proofs.Common.{◌≡◌, ◌≢◌, ◌⊎◌, inl, inr, ◌<◌, ◌≤◌, ℕ, zero, suc, Bool, true, false, List, [], ◌∷◌}
use Rattle.std.proofs.Common.{length, get_or, refl, subst, sym, arith, leb, leb-true, leb-false}
use Rattle.std.proofs.lemmas.Bool.{cases_Bool}
use Rattle.std.proofs.lemmas.List.Elements.{All-from_recursion, recursion_from_All}
use Rattle.std.proofs.Math.Nat.{eq-or-lt_of_le}
use Rattle.std.specs.Prelude.{All, nat_eq, IsTrue}
use Rattle.std.specs.List as list
use Rattle.std.specs.Cmp.Lexicographic.{same_text, other_text}
use Rattle.fix_model.specs.declared.kit.Kit.{Kit}
use Rattle.fix_model.specs.declared.rule.Rule.{Rule}
use Rattle.fix_model.specs.declared.pattern.Pat.{Pat}
use Rattle.fix_model.specs.declared.pattern.Pat.TheVariants.{Is, IsNot, OneOf, NoneOf, Any}
use Rattle.fix_model.specs.declared.state.State.{State}
use Rattle.fix_model.specs.declared.state.Step.{Step}
use Rattle.fix_model.specs.Alike.{AreAlike, compared}
use Rattle.fix_model.specs.Application.{IsUsable, RowAgreesAt, IsEnabled, Fires}
use Rattle.fix_model.specs.Pattern.{Matches}
use Rattle.fix_model.specs.Rules.{rule_at, master_of, master_text, from_text, is_folded}
use Rattle.fix_model.specs.Run.{IsFinal}
use Rattle.fix_model.specs.States.{IsCovered, is_covering, cell_at, value_at}
use lib.Pointwise.{pointwise}

-- the fact or its opposite
abbrev pub Decided : Type 0 → Type 0
Decided P = P ⊎ (¬ P)

-- two facts are decided together
pub both : {P Q : Type 0} → Decided P → Decided Q → Decided (P × Q)
both (inl p) (inl q) = inl (p, q)
both (inl p) (inr n) = inr (λ h. n h.1)
both (inr n) q = inr (λ h. n h.0)

-- the opposite of a decided fact is decided
pub opposite : {P : Type 0} → Decided P → Decided (¬ P)
opposite (inl p) = inr (λ n. n p)
opposite (inr n) = inl n

-- a fact about each item is decided where it is for one item
module _ {A : Type 0} (P : A → Type 0) (decide : (a : A) → Decided (P a)) where
  -- the fact about each item, by recursion on the list
  by_recursion : (items : List A) → Decided (list.AllByRecursion P items)
  by_recursion [] = inl tt
  by_recursion (a ∷ items) = both (decide a) (by_recursion items)

  -- and by its places
  pub decide_all : (items : List A) → Decided (All P items)
  decide_all items = elim (by_recursion items) [
    | inl each ↦ inl (All-from_recursion P items each)
    | inr none ↦ inr (λ each. none (recursion_from_All P items each))
  ]

  -- where neither the first item nor a later one has the fact, no item has it
  not_here : (a : A) (items : List A) → ¬ P a → ¬ list.Any P items → (place : ℕ) (x : A) → place < length (a ∷ items)
      → get_or (a ∷ items) place x ≡ x → ¬ P x
  not_here a items first later zero x within is p = first (subst P (sym is) p)
  not_here a items first later (suc place) x within is p = later (place, x, omega arith, is, p)

  -- and so is a fact about some item
  pub decide_any : (items : List A) → Decided (list.Any P items)
  decide_any [] = inr (λ (place, x, within, is, p). absurd (omega (arith, within)))
  decide_any (a ∷ items) = elim (decide a) [
    | inl here ↦ inl (0, a, omega arith, refl, here)
    | inr first ↦ elim (decide_any items) [
      | inl (place, x, within, is, p) ↦ inl (suc place, x, omega (arith, within), is, p)
      | inr later ↦ inr (λ (place, x, within, is, p). not_here a items first later place x within is p)
    ]
  ]

-- whether some number below a bound has a property
pub decide_below : (P : ℕ → Type 0) → ((n : ℕ) → Decided (P n)) → (bound : ℕ) → ((n : ℕ) × (n < bound) × P n)
    ⊎ ((n : ℕ) → n < bound → ¬ P n)
decide_below P decide zero = inr (λ n h. absurd (omega arith))
decide_below P decide (suc bound) = elim (decide bound) [
  | inl here ↦ inl (bound, omega arith, here)
  | inr none ↦ elim (decide_below P decide bound) [
    | inl (n, under, has) ↦ inl (n, omega (arith, under), has)
    | inr below ↦ inr (λ n h p. elim (eq-or-lt_of_le (let m : n ≤ bound = omega arith in m)) [
      | inl same ↦ none (subst P same p)
      | inr under ↦ below n under p
    ])
  ]
]

-- whether two texts are equal
pub decide_equal : (one other : List ℕ) → Decided (one ≡ other)
decide_equal one other = elim (cases_Bool (pointwise nat_eq one other)) [
  | inl same ↦ inl (same_text one other (sym same))
  | inr differ ↦ inr (other_text one other (sym differ))
]

-- whether two records are equal
pub decide_records : (one other : List (List ℕ)) → Decided (one ≡ other)
decide_records [] [] = inl refl
decide_records [] (text ∷ others) = inr (λ same. cc)
decide_records (text ∷ texts) [] = inr (λ same. cc)
decide_records (text ∷ texts) (other ∷ others) = elim (decide_equal text other) [
  | inr differs ↦ inr (λ same. differs cc)
  | inl same ↦ elim (decide_records texts others)
      [ inl rest ↦ inl (rw (same, rest) refl) | inr differs ↦ inr (λ all. differs cc) ]
]

-- whether a test passes
pub decide_test : (test : Bool) → Decided (IsTrue test)
decide_test true = inl refl
decide_test false = inr (λ h. cc)

-- whether two texts are alike
pub decide_alike : (folded : Bool) (one other : List ℕ) → Decided (AreAlike folded one other)
decide_alike folded one other = decide_equal (compared folded one) (compared folded other)

-- whether a pattern matches a text
pub decide_match : (folded : Bool) (pat : Pat) (text : List ℕ) → Decided (Matches folded pat text)
decide_match folded (Is constant) text = decide_alike folded constant text
decide_match folded (IsNot constant) text = opposite (decide_alike folded constant text)
decide_match folded (OneOf texts) text = decide_any (λ one. AreAlike folded one text)
    (λ one. decide_alike folded one text) texts
decide_match folded (NoneOf texts) text = opposite (decide_any (λ one. AreAlike folded one text)
    (λ one. decide_alike folded one text) texts)
decide_match folded Any text = inl tt

-- whether a number is below another
pub decide_less : (m n : ℕ) → Decided (m < n)
decide_less m n = elim (cases_Bool (leb n m)) [
  | inl past ↦ inr (λ h. absurd (let e = leb-true n m past in omega arith))
  | inr under ↦ inl (leb-false n m under)
]

module _ (kit : Kit) (state : State) where
  -- whether a row is usable
  pub decide_usable : (rule : Rule) (row : ℕ) → Decided (IsUsable kit rule row)
  decide_usable rule row = elim (both (decide_less row (length (master_of kit rule).rows))
      (both (decide_all (λ key. master_text kit rule row key.1 ≢ [])
      (λ key. opposite (decide_equal (master_text kit rule row key.1) [])) rule.keys)
      (opposite (decide_equal (from_text kit rule row) [])))) [
        | inl (within, (keys, from)) ↦ inl (record { row_within = within; keys = keys; from = from })
        | inr none ↦ inr (λ u. none (u.row_within, (u.keys, u.from)))
      ]

  -- whether a row agrees at some keys
  pub decide_agrees : (rule : Rule) (keys : List (ℕ × ℕ)) (row : ℕ)
      → Decided (RowAgreesAt kit (value_at kit state) rule keys row)
  decide_agrees rule keys row =
      let alike = λ (key : ℕ × ℕ). AreAlike (is_folded kit key.0) (value_at kit state key.0)
      (master_text kit rule row key.1) in
      elim (both (decide_usable rule row)
      (decide_all alike (λ key. decide_alike (is_folded kit key.0) (value_at kit state key.0)
      (master_text kit rule row key.1)) keys)) [
        | inl h ↦ inl (record { usable = h.0; alike = h.1 })
        | inr none ↦ inr (λ a. none (a.usable, a.alike))
      ]

  -- whether a rule is enabled
  pub decide_enabled : (rule : Rule) → Decided (IsEnabled kit state rule)
  decide_enabled rule =
      let covered = λ (attribute : ℕ). decide_test (is_covering (cell_at state attribute)) in
      elim (both (decide_all (λ key. IsCovered state key.0) (λ key. covered key.0) rule.keys)
      (both (decide_all (λ cond. IsCovered state cond.0) (λ cond. covered cond.0) rule.conds)
      (decide_all (λ cond. Matches (is_folded kit cond.0) cond.1 (value_at kit state cond.0))
      (λ cond. decide_match (is_folded kit cond.0) cond.1 (value_at kit state cond.0)) rule.conds))) [
        | inl (keys, (conds, matched)) ↦ inl (record { keys = keys; conds = conds; matched = matched })
        | inr none ↦ inr (λ e. none (e.keys, (e.conds, e.matched)))
      ]

  -- whether a step fires
  pub decide_fires : (step : Step) → Decided (Fires kit state step)
  decide_fires step =
      let rule = rule_at kit step.rule in
      elim (both (decide_less step.rule (length kit.rules)) (both (decide_enabled rule)
      (both (opposite (decide_test (is_covering (cell_at state rule.head))))
      (decide_agrees rule rule.keys step.row)))) [
        | inl (within, (enabled, (uncovered, agrees))) ↦
            inl (record { rule_within = within; enabled = enabled; uncovered = uncovered; agrees = agrees })
        | inr none ↦ inr (λ f. none (f.rule_within, (f.enabled, (f.uncovered, f.agrees))))
      ]

  -- whether a step of the rule fires, and which
  row_of : (place : ℕ) → ((step : Step) × Fires kit state step)
      ⊎ ((row : ℕ) → ¬ Fires kit state (record { rule = place; row = row }))
  row_of place = elim (decide_below (λ row. Fires kit state (record { rule = place; row = row }))
      (λ row. decide_fires (record { rule = place; row = row })) (length (master_of kit (rule_at kit place)).rows)) [
        | inl (row, below, fires) ↦ inl (record { rule = place; row = row }, fires)
        | inr none ↦ inr (λ row fires. none row fires.agrees.usable.row_within fires)
      ]

  -- whether a step of the first rules fires, and which
  some_below : (bound : ℕ) → ((step : Step) × Fires kit state step)
      ⊎ ((place row : ℕ) → place < bound → ¬ Fires kit state (record { rule = place; row = row }))
  some_below zero = inr (λ place row h. absurd (omega arith))
  some_below (suc bound) = elim (row_of bound) [
    | inl found ↦ inl found
    | inr none ↦ elim (some_below bound) [
      | inl found ↦ inl found
      | inr below ↦ inr (λ place row h fires. elim (eq-or-lt_of_le (let m : place ≤ bound = omega arith in m)) [
        | inl same ↦ none row (subst (λ p. Fires kit state (record { rule = p; row = row })) same fires)
        | inr under ↦ below place row under fires
      ])
    ]
  ]

  -- some step fires, or none does
  pub fires_or_final : ((step : Step) × Fires kit state step) ⊎ IsFinal kit state
  fires_or_final = elim (some_below (length kit.rules)) [
    | inl found ↦ inl found
    | inr none ↦ inr (λ step fires. none step.rule step.row fires.rule_within fires)
  ]

-- Where nothing of a rule's left side is unknown, all of it is covered, and the other way round.
use Rattle.std.proofs.Common.{◌≡◌, ◌++◌, ◌∷◌, [], ℕ, inl, inr, List, Bool, true, false, filter, map, get_or, ap}
use Rattle.std.proofs.Common.{refl, ◌∙◌, subst, arith}
use Rattle.std.specs.Prelude.{All, not, ◌==◌}
use Rattle.std.specs.List.{AllByRecursion}
use Rattle.std.proofs.lemmas.Bool.{cases_Bool, eqb-true}
use Rattle.std.proofs.lemmas.List.Elements.{All-filter, All-map, recursion_from_All}
use Rattle.std.proofs.lemmas.List.Folds.{Any-from_list_any}
use Rattle.desk_base.proofs.Lists.{All-unmap}
use Rattle.fix_model.specs.declared.pattern.Pat.{Pat}
use Rattle.fix_model.specs.declared.rule.Rule.{Rule}
use Rattle.fix_model.specs.declared.state.State.{State}
use Rattle.fix_model.specs.States.{IsCovered}
use Rattle.fix_model.proofs.Filters.{All_where-filter}
use Rattle.fix_blockers.specs.Blockers.{is_key, is_uncovered, key_attributes, other_attributes, unknown}
use Rattle.fix_blockers.proofs.Covered.{covered, is_uncovered-covered}

-- where nothing passes a test, nothing is left
none_pass : {A : Type 0} (test : A → Bool) (items : List A) → AllByRecursion (λ a. test a ≡ false) items
    → filter test items ≡ []
none_pass test [] fail = refl
none_pass test (item ∷ items) fail = rw fail.0 (none_pass test items fail.1)

-- where nothing is left, each item fails
each_fails : {A : Type 0} (test : A → Bool) (items : List A) → filter test items ≡ []
    → All (λ a. test a ≡ false) items
each_fails test items none k d within = elim (cases_Bool (test (get_or items k d))) [
  | inl passes ↦ absurd (All_where-filter (λ a. ⊥) test items (rw none (λ j e below. absurd (omega (arith, below))))
      k d within passes)
  | inr fails ↦ fails
]

-- nothing stands in two lists that make no list together
both_none : {A : Type 0} (one other : List A) → one ++ other ≡ [] → (one ≡ []) × (other ≡ [])
both_none [] other none = (refl, none)
both_none (item ∷ one) other none = absurd cc

module _ (state : State) (rule : Rule) where
  -- the key attributes as a list of numbers
  abbrev key : ℕ × ℕ → ℕ
  key pair = pair.0

  -- and those of conditions
  abbrev cond : ℕ × Pat → ℕ
  cond pair = pair.0

  -- where no attribute is unknown, the keys are covered
  pub keys-covered : unknown state rule ≡ [] → All (λ key. IsCovered state key.0) rule.keys
  keys-covered none k d within =
      let parts = both_none (filter (is_uncovered state) (key_attributes rule))
      (filter (is_uncovered state) (other_attributes rule)) none in
      covered state (get_or rule.keys k d).0 (All-unmap (λ a. is_uncovered state a ≡ false) key rule.keys
      (each_fails (is_uncovered state) (key_attributes rule) parts.0) k d within)

  -- and the conditions
  pub conds-covered : unknown state rule ≡ [] → All (λ cond. IsCovered state cond.0) rule.conds
  conds-covered none k d within =
      let parts = both_none (filter (is_uncovered state) (key_attributes rule))
      (filter (is_uncovered state) (other_attributes rule)) none in
      let attribute = (get_or rule.conds k d).0 in
      let others = All_where-filter (λ a. is_uncovered state a ≡ false) (λ a. not (is_key rule a)) (map cond rule.conds)
      (each_fails (is_uncovered state) (other_attributes rule) parts.1) in
      elim (cases_Bool (is_key rule attribute)) [
        | inl is ↦
            let (place, pair, inside, there, same) = Any-from_list_any (λ (pair : ℕ × ℕ). pair.0 == attribute) rule.keys
            is in
            subst (IsCovered state) (ap key there ∙ eqb-true pair.0 attribute same)
            (keys-covered none place pair inside)
        | inr is_not ↦ covered state attribute
            (All-unmap (λ a. not (is_key rule a) ≡ true → is_uncovered state a ≡ false) cond rule.conds others k d
            within (ap not is_not))
      ]

  -- where all are covered, no attribute is unknown
  pub unknown-none : All (λ key. IsCovered state key.0) rule.keys → All (λ cond. IsCovered state cond.0) rule.conds
      → unknown state rule ≡ []
  unknown-none keys conds =
      let fails = λ (a : ℕ). is_uncovered state a ≡ false in
      let no_key : filter (is_uncovered state) (key_attributes rule) ≡ [] =
      none_pass (is_uncovered state) (key_attributes rule)
      (recursion_from_All fails (key_attributes rule) (All-map fails key rule.keys
      (λ k d within. is_uncovered-covered state (get_or rule.keys k d).0 (keys k d within)))) in
      let no_other : filter (is_uncovered state) (other_attributes rule) ≡ [] = none_pass (is_uncovered state)
      (other_attributes rule) (recursion_from_All fails (other_attributes rule) (All-filter (λ a. not (is_key rule a))
      fails (map cond rule.conds) (All-map fails cond rule.conds
      (λ k d within. is_uncovered-covered state (get_or rule.conds k d).0 (conds k d within))))) in
      rw (no_key, no_other) refl

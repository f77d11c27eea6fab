-- What stands in the way of a rule: one thing at most, and where nothing fires one at least.
use Rattle.std.proofs.Common.{◌≡◌, ◌≢◌, ◌<◌, ◌⊎◌, [], ℕ, inl, inr, List, length, ap, sym, ◌∙◌, refl, ◌∷◌}
use Rattle.fix_model.specs.declared.kit.Kit.{Kit}
use Rattle.fix_model.specs.declared.rule.Rule.{Rule}
use Rattle.fix_model.specs.declared.state.State.{State}
use Rattle.fix_model.specs.Application.{AreMatched, IsEnabled}
use Rattle.fix_model.specs.Hit.{IsMissed}
use Rattle.fix_model.specs.Rules.{rule_at}
use Rattle.fix_model.specs.Run.{IsFinal}
use Rattle.fix_model.specs.States.{IsCovered, value_at}
use Rattle.fix_blockers.specs.declared.blocker.Blocker.{Blocker}
use Rattle.fix_blockers.specs.declared.blocker.Blocker.TheVariants.{Unknown, Pattern, NoRow}
use Rattle.fix_blockers.specs.Blockers.{IsBlocker, unknown}
use Rattle.fix_blockers.proofs.LeftSides.{conds-covered, keys-covered, unknown-none}
use Rattle.fix_blockers.proofs.Unmet.{matched_or_unmet, no_first_unmet, one_first_unmet}

module _ (kit : Kit) (state : State) (rule : Rule) where
  -- where nothing is unknown and all conditions match, the rule is enabled
  pub enabled : unknown state rule ≡ [] → AreMatched kit (value_at kit state) rule → IsEnabled kit state rule
  enabled none matched = record {
    keys = keys-covered state rule none;
    conds = conds-covered state rule none;
    matched = matched;
  }

  -- an enabled rule has no unknown attribute
  pub known-enabled : IsEnabled kit state rule → unknown state rule ≡ []
  known-enabled is = unknown-none state rule is.keys is.conds

  -- only one thing stands in its way
  pub one_blocker : (blocker other : Blocker) → IsBlocker kit state rule blocker → IsBlocker kit state rule other
      → blocker ≡ other
  one_blocker (Unknown attributes) (Unknown others) is again = ap Unknown (is.0 ∙ sym again.0)
  one_blocker (Unknown attributes) (Pattern attribute) is again = absurd (is.1 (is.0 ∙ again.0))
  one_blocker (Unknown attributes) NoRow is again = absurd (is.1 (is.0 ∙ known-enabled again.0))
  one_blocker (Pattern attribute) (Unknown others) is again = absurd (again.1 (again.0 ∙ is.0))
  one_blocker (Pattern attribute) (Pattern other) is again =
      ap Pattern (one_first_unmet kit state rule attribute other is.1 again.1)
  one_blocker (Pattern attribute) NoRow is again = absurd (no_first_unmet kit state rule attribute is.1 again.0.matched)
  one_blocker NoRow (Unknown others) is again = absurd (again.1 (again.0 ∙ known-enabled is.0))
  one_blocker NoRow (Pattern other) is again = absurd (no_first_unmet kit state rule other again.1 is.0.matched)
  one_blocker NoRow NoRow is again = refl

  -- what stands in its way keeps it from being enabled with a row that agrees
  pub blocked-not_enabled : (blocker : Blocker) → IsBlocker kit state rule blocker → IsEnabled kit state rule
      → IsMissed kit (value_at kit state) rule
  blocked-not_enabled (Unknown attributes) is ready = absurd (is.1 (is.0 ∙ known-enabled ready))
  blocked-not_enabled (Pattern attribute) is ready = absurd (no_first_unmet kit state rule attribute is.1 ready.matched)
  blocked-not_enabled NoRow is ready = is.1

-- where nothing fires, no row agrees with an enabled rule whose head is not covered
pub missed : (kit : Kit) (state : State) (place : ℕ) → place < length kit.rules → IsFinal kit state
    → ¬ IsCovered state (rule_at kit place).head → IsEnabled kit state (rule_at kit place)
    → IsMissed kit (value_at kit state) (rule_at kit place)
missed kit state place within ended uncovered ready row agrees = ended (record { rule = place; row = row }) (record {
  rule_within = within;
  enabled = ready;
  uncovered = uncovered;
  agrees = agrees;
})

-- either no attribute is there, or one is
none_or_some : (attributes : List ℕ) → (attributes ≡ []) ⊎ (attributes ≢ [])
none_or_some [] = inl refl
none_or_some (attribute ∷ attributes) = inr (λ none. absurd cc)

-- so where nothing fires something stands in the way of each rule whose head is not covered
pub some_blocker : (kit : Kit) (state : State) (place : ℕ) → place < length kit.rules → IsFinal kit state
    → ¬ IsCovered state (rule_at kit place).head
    → (blocker : Blocker) × IsBlocker kit state (rule_at kit place) blocker
some_blocker kit state place within ended uncovered =
    let rule = rule_at kit place in
    elim (none_or_some (unknown state rule)) [
      | inr some ↦ (Unknown (unknown state rule), (refl, some))
      | inl none ↦ elim (matched_or_unmet kit state rule) [
        | inr (attribute, first) ↦ (Pattern attribute, (none, first))
        | inl matched ↦
            let ready = enabled kit state rule none matched in
            (NoRow, (ready, missed kit state place within ended uncovered ready))
      ]
    ]

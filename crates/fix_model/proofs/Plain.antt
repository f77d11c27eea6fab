-- Where no attribute is folded, alike is equal.
use Rattle.std.proofs.Common.{◌≡◌, ℕ, false, List, length, get_or, subst, sym, leb, leb-true, leb-false, inl, inr}
use Rattle.std.proofs.Math.ListN.{get_or-eq_default}
use Rattle.std.proofs.lemmas.Bool.{cases_Bool}
use Rattle.std.specs.Prelude.{◌↔◌}
use Rattle.fix_model.specs.declared.kit.Kit.{Kit}
use Rattle.fix_model.specs.declared.state.State.{State}
use Rattle.fix_model.specs.declared.state.Step.{Step}
use Rattle.fix_model.specs.Alike.{AreAlike}
use Rattle.fix_model.specs.Application.{Fires}
use Rattle.fix_model.specs.Pattern.{Matches}
use Rattle.fix_model.specs.Plain.{IsUnfolded, FiresExactly}
use Rattle.fix_model.specs.Rules.{rule_at, master_text, is_folded}
use Rattle.fix_model.specs.States.{value_at}

module _ (kit : Kit) (unfolded : IsUnfolded kit) where
  -- no attribute is folded, also past the last
  pub is_folded-none : (attribute : ℕ) → is_folded kit attribute ≡ false
  is_folded-none attribute = elim (cases_Bool (leb (length kit.folded) attribute)) [
    | inl past ↦ get_or-eq_default kit.folded false (leb-true (length kit.folded) attribute past)
    | inr within ↦ unfolded attribute false (leb-false (length kit.folded) attribute within)
  ]

  -- alike is equal
  pub AreAlike-exact : (attribute : ℕ) (one other : List ℕ) → AreAlike (is_folded kit attribute) one other
      ↔ (one ≡ other)
  AreAlike-exact attribute one other = (
    λ alike. subst (λ flag. AreAlike flag one other) (is_folded-none attribute) alike,
    λ equal. subst (λ flag. AreAlike flag one other) (sym (is_folded-none attribute)) equal,
  )

  -- so a step fires exactly by equality
  pub Fires-exact : (state : State) (step : Step) → Fires kit state step ↔ FiresExactly kit state step
  Fires-exact state step =
      let rule = rule_at kit step.rule in (
        λ fires. record {
          rule_within = fires.rule_within;
          usable = fires.agrees.usable;
          keys = fires.enabled.keys;
          conds = fires.enabled.conds;
          uncovered = fires.uncovered;
          matched = λ k d h.
              let cond = get_or rule.conds k d in
              subst (λ flag. Matches flag cond.1 (value_at kit state cond.0)) (is_folded-none cond.0)
              (fires.enabled.matched k d h);
          equal = λ k d h.
              let key = get_or rule.keys k d in
              (AreAlike-exact key.0 (value_at kit state key.0) (master_text kit rule step.row key.1)).0
              (fires.agrees.alike k d h);
        },
        λ fires. record {
          rule_within = fires.rule_within;
          enabled = record {
            keys = fires.keys;
            conds = fires.conds;
            matched = λ k d h.
                let cond = get_or rule.conds k d in
                subst (λ flag. Matches flag cond.1 (value_at kit state cond.0)) (sym (is_folded-none cond.0))
                (fires.matched k d h);
          };
          uncovered = fires.uncovered;
          agrees = record {
            usable = fires.usable;
            alike = λ k d h.
                let key = get_or rule.keys k d in
                (AreAlike-exact key.0 (value_at kit state key.0) (master_text kit rule step.row key.1)).1
                (fires.equal k d h);
          };
        },
      )

-- Which rules a step wakes: those alone that name its head among their keys and conditions.
use Rattle.std.proofs.Common.{◌≡◌, ◌≢◌, ◌<◌, ◌≤◌, ◌+◌, ◌∙◌, ℕ, List, ◌∷◌, get_or, sym, refl, inl, inr, subst}
use Rattle.std.proofs.Common.{ap, arith}
use Rattle.std.proofs.lemmas.Bool.{cases_eq}
use Rattle.std.proofs.lemmas.List.{set_comm}
use Rattle.fix_model.specs.declared.kit.Kit.{Kit}
use Rattle.fix_model.specs.declared.state.Cell.{Cell}
use Rattle.fix_model.specs.declared.state.Cell.TheVariants.{Fixed}
use Rattle.fix_model.specs.declared.state.State.{State}
use Rattle.fix_model.specs.declared.state.Step.{Step}
use Rattle.fix_model.specs.Application.{Fires, after}
use Rattle.fix_model.specs.FirstRun.{IsLeastStep}
use Rattle.fix_model.specs.Rules.{rule_at}
use Rattle.fix_model.specs.Run.{IsFinal, IsMaximalRun, IsRun, end_of}
use Rattle.fix_model.specs.States.{Fits, IsCovered, record_of, value_at}
use Rattle.fix_model.specs.Valid.{IsValid}
use Rattle.fix_model.specs.Waits.{IsApart, NoneWaitsBefore}
use Rattle.fix_model.proofs.Covered.{IsCovered-after, RowAgrees-values}
use Rattle.fix_engine.specs.Next.{IsIdle}
use Rattle.fix_engine.specs.Turns.{ArePassedBefore, IsLeastOfAll}
use Rattle.fix_engine.proofs.Departures.{IsInside-step}
use Rattle.fix_engine.proofs.Ends.{IsEnabled-inside, RowAgrees-inside, cell_at-head, cell_at-other, value_at-other}
use Rattle.fix_engine.proofs.Truth.{AreMatched-values}

-- ---- a rule that does not name the head of a step

module _ (kit : Kit) (valid : IsValid kit) (state : State) (step : Step) (fits : Fits kit state)
    (fires : Fires kit state step) where
  -- a step of such a rule that fires after the step fires before it
  pub Fires-before : (other : Step) → IsApart (rule_at kit step.rule).head (rule_at kit other.rule)
      → Fires kit (after kit state step) other → Fires kit state other
  Fires-before other apart later =
      let rule = rule_at kit other.rule in
      record {
        rule_within = later.rule_within;
        enabled = record {
          keys = λ k d h.
              let covered : IsCovered (after kit state step) (get_or rule.keys k d).0 = later.enabled.keys k d h in
              rw (cell_at-other kit valid state step fits fires (get_or rule.keys k d).0 (apart.keys k d h)) at covered;
          conds = λ k d h.
              let covered : IsCovered (after kit state step) (get_or rule.conds k d).0 = later.enabled.conds k d h in
              rw (cell_at-other kit valid state step fits fires (get_or rule.conds k d).0 (apart.conds k d h))
              at covered;
          matched = AreMatched-values kit rule (value_at kit (after kit state step)) (value_at kit state)
              (λ k d h. value_at-other kit valid state step fits fires (get_or rule.conds k d).0 (apart.conds k d h))
              later.enabled.matched;
        };
        uncovered = λ covered. later.uncovered (IsCovered-after kit state step fires rule.head covered);
        agrees = RowAgrees-values kit rule (value_at kit (after kit state step)) (value_at kit state)
            (λ k d h. value_at-other kit valid state step fits fires (get_or rule.keys k d).0 (apart.keys k d h))
            other.row later.agrees;
      }

  -- after a step its rule is idle
  pub IsIdle-made : IsIdle kit (after kit state step) step.rule
  IsIdle-made other is later = later.uncovered (rw (is, cell_at-head kit valid state step fits fires) refl)

-- after the least step no rule fires that comes before the one to go on from
pub IsIdle-woken : (kit : Kit) (valid : IsValid kit) (state : State) (step : Step) (from : ℕ) → Fits kit state
    → IsLeastStep kit state step → from ≤ step.rule + 1
    → NoneWaitsBefore kit (rule_at kit step.rule).head from → (place : ℕ) → place < from
    → IsIdle kit (after kit state step) place
IsIdle-woken kit valid state step from fits least up_to none place within = elim (cases_eq place step.rule) [
  | inl same ↦ rw same (IsIdle-made kit valid state step fits least.holds)
  | inr other ↦ λ later is fires.
      let before = Fires-before kit valid state step fits least.holds later (rw is (none.apart place within)) fires in
      elim (least.least later before) [
        | inl equal ↦ absurd (let r : step.rule ≡ later.rule = cc in other (sym is ∙ sym r))
        | inr (inl less) ↦ absurd (omega (arith, less, is, up_to, within, other))
        | inr (inr same) ↦ absurd (other (sym is ∙ sym same.0))
      ]
]

-- ---- the same of the steps of the second run

module _ (kit : Kit) (valid : IsValid kit) (end state : State) (step : Step) (fits : Fits kit state)
    (fires : Fires kit state step) where
  -- a maximal run after the step may begin with another step of a rule that does not name the head: it makes both in
  -- the other order
  IsMaximalRun-turned : (other : Step) (rest : List Step)
      → IsApart (rule_at kit step.rule).head (rule_at kit other.rule)
      → IsMaximalRun kit (after kit state step) (other ∷ rest)
      → IsMaximalRun kit state (other ∷ (step ∷ rest))
      × (end_of kit state (other ∷ (step ∷ rest)) ≡ end_of kit (after kit state step) (other ∷ rest))
  IsMaximalRun-turned other rest apart ((later, whole), final) =
      let before = Fires-before kit valid state step fits fires other apart later in
      let next = after kit state other in
      let covers : IsCovered (after kit state step) (rule_at kit step.rule).head =
      rw (cell_at-head kit valid state step fits fires) refl in
      let heads : (rule_at kit other.rule).head ≢ (rule_at kit step.rule).head =
      λ same. later.uncovered (rw same covers) in
      let inside = IsInside-step kit state other before in
      let still : Fires kit next step = record {
        rule_within = fires.rule_within;
        enabled = IsEnabled-inside kit state next inside (rule_at kit step.rule) fires.enabled;
        uncovered = λ covered. fires.uncovered (rw (cell_at-other kit valid state other fits before
            (rule_at kit step.rule).head (λ same. heads (sym same))) at covered);
        agrees = RowAgrees-inside kit state next inside (rule_at kit step.rule) step.row
            fires.enabled.keys fires.agrees;
      } in
      let turned : after kit next step ≡ after kit (after kit state step) other =
      ap (λ (cells : List Cell). record state { cells = cells })
      (set_comm state.cells (rule_at kit other.rule).head (rule_at kit step.rule).head (Fixed other) (Fixed step) heads)
      in (
        (
          (before, (still, subst (λ (s : State). IsRun kit s rest) (sym turned) whole)),
          subst (λ (s : State). IsFinal kit (end_of kit s rest)) (sym turned) final,
        ),
        ap (λ (s : State). end_of kit s rest) turned,
      )

  -- after the least step no run that ends elsewhere begins with a rule that comes before the one to go on from
  pub ArePassedBefore-woken : (from : ℕ) → IsLeastOfAll kit end state step → from ≤ step.rule + 1
      → NoneWaitsBefore kit (rule_at kit step.rule).head from → ArePassedBefore kit end (after kit state step) from
  ArePassedBefore-woken from least up_to none place within other rest is maximal elsewhere =
      elim (cases_eq place step.rule) [
        | inl same ↦ IsIdle-made kit valid state step fits fires other (is ∙ same) maximal.0.0
        | inr differs ↦
            let (longer, ends) = IsMaximalRun-turned other rest (rw is (none.apart place within)) maximal in
            elim (least other (step ∷ rest) longer (λ alike. elsewhere (ap (record_of kit) (sym ends) ∙ alike))) [
              | inl equal ↦ absurd (let r : step.rule ≡ other.rule = cc in differs (sym is ∙ sym r))
              | inr (inl less) ↦ absurd (omega (arith, less, is, up_to, within, differs))
              | inr (inr same) ↦ absurd (differs (sym is ∙ sym same.0))
            ]
      ]

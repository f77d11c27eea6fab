-- Why a run fixes an attribute is always told.
use Rattle.std.proofs.Common.{◌≡◌, ◌+◌, ℕ, zero, suc, List, [], ◌∷◌, ◌++◌, inl, inr, refl, subst, arith}
use Rattle.std.proofs.lemmas.Bool.{cases_eq}
use Rattle.fix_model.specs.declared.kit.Kit.{Kit}
use Rattle.fix_model.specs.declared.pattern.Pat.{Pat}
use Rattle.fix_model.specs.declared.rule.Rule.{Rule}
use Rattle.fix_model.specs.declared.state.State.{State}
use Rattle.fix_model.specs.declared.state.Step.{Step}
use Rattle.fix_model.specs.Rules.{rule_at}
use Rattle.fix_model.specs.Run.{IsFinal, IsRun, end_of}
use Rattle.fix_model.specs.States.{Fits, cell_at}
use Rattle.fix_model.specs.Valid.{IsValid}
use Rattle.fix_model.proofs.Deciding.{Decided, both, decide_any}
use Rattle.fix_engine.specs.declared.verdict.Verdict.{Verdict}
use Rattle.fix_engine.specs.declared.verdict.Verdict.TheVariants.{Fix, Conflict}
use Rattle.fix_engine.specs.Verdicts.{IsAnswer}
use Rattle.fix_explain.specs.Reasons.{IsFixed}
use Rattle.fix_explain.specs.Uses.{IsUse, Reads}
use Rattle.fix_explain.proofs.Finding.{IsReason-exists}
use Rattle.fix_engine.proofs.Listing.{ListsBelow, ListsBelow-nil, ListsBelow-no, ListsBelow-yes}
use Rattle.fix_explain.proofs.Used.{AreUses-listed}
use Rattle.machine_core.specs.Checked.{Explanation, IsExplanation}
use Rattle.machine_laws.proofs.Decisions.{decide_confirmed}

-- whether a rule reads an attribute
decide_reads : (rule : Rule) (attribute : ℕ) → Decided (Reads rule attribute)
decide_reads rule attribute =
    elim (decide_any (λ (key : ℕ × ℕ). key.0 ≡ attribute) (λ key. cases_eq key.0 attribute) rule.keys) [
      | inl key ↦ inl (inl key)
      | inr no_key ↦
          elim (decide_any (λ (cond : ℕ × Pat). cond.0 ≡ attribute) (λ cond. cases_eq cond.0 attribute) rule.conds) [
            | inl cond ↦ inl (inr cond)
            | inr no_cond ↦ inr (λ read. elim read [ inl key ↦ no_key key | inr cond ↦ no_cond cond ])
          ]
    ]

module _ (kit : Kit) (state : State) (steps : List Step) where
  -- whether steps use an attribute
  decide_use : (attribute : ℕ) → Decided (IsUse kit state steps attribute)
  decide_use attribute = elim (both (decide_confirmed (cell_at state attribute))
      (decide_any (λ (step : Step). Reads (rule_at kit step.rule) attribute)
      (λ step. decide_reads (rule_at kit step.rule) attribute) steps)) [
        | inl is ↦ inl (record { confirmed = is.0; read = is.1 })
        | inr none ↦ inr (λ used. none (used.confirmed, used.read))
      ]

  -- the attributes below a bound that they use
  uses-below : (bound : ℕ) → (uses : List ℕ) × ListsBelow (IsUse kit state steps) bound uses
  uses-below zero = ([], ListsBelow-nil (IsUse kit state steps))
  uses-below (suc bound) =
      let sofar = uses-below bound in
      let Below : List ℕ → ℕ → Type 0 = λ uses most. ListsBelow (IsUse kit state steps) most uses in
      let next : bound + 1 ≡ suc bound = omega arith in
      elim (decide_use bound) [
        | inl used ↦ (
          sofar.0 ++ bound ∷ [],
          subst (Below (sofar.0 ++ bound ∷ [])) next
              (ListsBelow-yes (IsUse kit state steps) bound sofar.0 sofar.1 (sofar.0 ++ bound ∷ []) used refl),
        )
        | inr unused ↦ (
          sofar.0,
          subst (Below sofar.0) next (ListsBelow-no (IsUse kit state steps) bound sofar.0 sofar.1 unused),
        )
      ]

-- a run that fixes an attribute has an explanation of it
pub some-explanation : (kit : Kit) (state : State) (run : List Step) (attribute : ℕ) → IsValid kit → Fits kit state
    → IsRun kit state run → IsFixed (end_of kit state run) attribute
    → (explanation : Explanation) × IsExplanation kit state run attribute explanation
some-explanation kit state run attribute valid fits runs fixed =
    let reason = IsReason-exists kit attribute valid state run fits runs fixed in
    let uses = uses-below kit state reason.0 kit.width in (
      record { steps = reason.0; uses = uses.0 },
      record { reason = reason.1; uses = AreUses-listed kit state fits reason.0 uses.0 uses.1 },
    )

-- whatever the answer is, nothing fires at the end of its first run
pub answer-ended : (kit : Kit) (state : State) (first second : List Step) (verdict : Verdict)
    → IsAnswer kit state first second verdict → IsFinal kit (end_of kit state first)
answer-ended kit state first second (Fix certain dissent) is = is.0.is_first.holds.1
answer-ended kit state first second Conflict is = is.is_first.holds.1

-- whatever the answer is, its first run is a run
pub answer-run : (kit : Kit) (state : State) (first second : List Step) (verdict : Verdict)
    → IsAnswer kit state first second verdict → IsRun kit state first
answer-run kit state first second (Fix certain dissent) is = is.0.is_first.holds.0
answer-run kit state first second Conflict is = is.is_first.holds.0

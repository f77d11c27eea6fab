-- A run that fixes an attribute has a reason for it.
use Rattle.std.proofs.Common.{◌≡◌, ◌⊎◌, ℕ, List, [], ◌∷◌, inl, inr, refl}
use Rattle.std.proofs.lemmas.Bool.{cases_eq}
use Rattle.fix_model.proofs.Deciding.{decide_any}
use Rattle.fix_model.specs.declared.kit.Kit.{Kit}
use Rattle.fix_model.specs.declared.pattern.Pat.{Pat}
use Rattle.fix_model.specs.declared.rule.Rule.{Rule}
use Rattle.fix_model.specs.declared.state.State.{State}
use Rattle.fix_model.specs.declared.state.Step.{Step}
use Rattle.fix_model.specs.Application.{after}
use Rattle.fix_model.specs.Rules.{rule_at}
use Rattle.fix_model.specs.Run.{IsRun, end_of}
use Rattle.fix_model.specs.States.{Fits}
use Rattle.fix_model.specs.Valid.{IsValid}
use Rattle.fix_model.proofs.States.{Fits-after}
use Rattle.fix_explain.specs.Marks.{IsWanted}
use Rattle.fix_explain.specs.Reasons.{IsFixed, IsReason}
use Rattle.fix_explain.specs.Uses.{Reads}
use Rattle.fix_explain.proofs.Marking.{IsMarked, IsMarked-marked, IsMarked-nil, IsMarked-passed}
use Rattle.fix_explain.proofs.Shortest.{IsReason-marked}
use Rattle.fix_explain.proofs.Elements.{Any-cases, Any-first, Any-later, Any-nil}

-- whether a rule reads an attribute is decided
decide_reads : (rule : Rule) (attribute : ℕ) → Reads rule attribute ⊎ ¬ Reads rule attribute
decide_reads rule attribute =
    elim (decide_any (λ (key : ℕ × ℕ). key.0 ≡ attribute) (λ key. cases_eq key.0 attribute) rule.keys) [
      | inl some ↦ inl (inl some)
      | inr no_key ↦
          elim (decide_any (λ (cond : ℕ × Pat). cond.0 ≡ attribute) (λ cond. cases_eq cond.0 attribute) rule.conds) [
            | inl some ↦ inl (inr some)
            | inr no_cond ↦ inr (λ read. elim read [ inl key ↦ no_key key | inr cond ↦ no_cond cond ])
          ]
    ]

module _ (kit : Kit) (target : ℕ) where
  -- and so is whether an attribute is wanted
  decide_wanted : (marked : List Step) (attribute : ℕ)
      → IsWanted kit target marked attribute ⊎ ¬ IsWanted kit target marked attribute
  decide_wanted marked attribute = elim (cases_eq attribute target) [
    | inl same ↦ inl (inl same)
    | inr apart ↦ elim (decide_any (λ (step : Step). Reads (rule_at kit step.rule) attribute)
        (λ step. decide_reads (rule_at kit step.rule) attribute) marked) [
          | inl read ↦ inl (inr read)
          | inr unread ↦ inr (λ wanted. elim wanted [ inl same ↦ apart same | inr read ↦ unread read ])
        ]
  ]

  -- the steps of a run can be marked
  IsMarked-exists : (valid : IsValid kit) (state : State) (run : List Step) → Fits kit state → IsRun kit state run
      → IsFixed (end_of kit state run) target
      → (marked : List Step) × IsMarked kit target state run marked (IsWanted kit target marked)
  IsMarked-exists valid state [] fits whole fixed = (
    [],
    IsMarked-nil kit target state (IsWanted kit target []) fixed (inl refl) (λ attribute wanted. elim wanted [
      | inl same ↦ same
      | inr read ↦ absurd (Any-nil (λ (step : Step). Reads (rule_at kit step.rule) attribute) read)
    ]),
  )
  IsMarked-exists valid state (step ∷ run) fits whole fixed =
      let later = IsMarked-exists valid (after kit state step) run (Fits-after kit state step fits whole.0) whole.1
      fixed in
      let marked : List Step = later.0 in
      let holds : ℕ → Step → Type 0 = λ one made. Reads (rule_at kit made.rule) one in
      elim (decide_wanted marked (rule_at kit step.rule).head) [
        | inr unwanted ↦ (
          marked,
          IsMarked-passed kit valid target state step fits whole.0 run marked
              (IsWanted kit target marked) later.1 unwanted,
        )
        | inl wanted ↦ (
          step ∷ marked,
          IsMarked-marked kit valid target state step fits whole.0 run marked
              (IsWanted kit target marked) later.1 (IsWanted kit target (step ∷ marked)) wanted
              (λ one is. elim is [
                | inl same ↦ inl same
                | inr read ↦ inr (Any-later (holds one) step marked read)
              ])
              (λ one read. inr (Any-first (holds one) step marked read))
              (λ one is. elim is [
                | inl same ↦ inl (inl same)
                | inr read ↦ elim (Any-cases (holds one) step marked read) [
                  | inl here ↦ inr here
                  | inr following ↦ inl (inr following)
                ]
              ]),
        )
      ]

  -- so there is a reason
  pub IsReason-exists : (valid : IsValid kit) (state : State) (run : List Step) → Fits kit state → IsRun kit state run
      → IsFixed (end_of kit state run) target → (reason : List Step) × IsReason kit state run target reason
  IsReason-exists valid state run fits whole fixed =
      let found = IsMarked-exists valid state run fits whole fixed in
      (found.0, IsReason-marked kit target state run found.0 (IsWanted kit target found.0) fits found.1)

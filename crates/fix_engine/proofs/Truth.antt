-- A record that agrees with a state and obeys the rules agrees with every state that they lead to.
use Rattle.std.proofs.Common.{◌≡◌, ◌<◌, ◌∙◌, ℕ, Bool, true, List, [], ◌∷◌, length, get_or, refl, sym, ap, subst, eqb}
use Rattle.std.proofs.Common.{eqb-true, inl, inr}
use Rattle.std.specs.Prelude.{All, None, Some}
use Rattle.std.proofs.lemmas.Bool.{cases_Bool, eqb-false}
use Rattle.std.proofs.lemmas.List.{ext_get_or}
use Rattle.fix_model.specs.declared.kit.Kit.{Kit}
use Rattle.fix_model.specs.declared.rule.Rule.{Rule}
use Rattle.fix_model.specs.declared.state.State.{State}
use Rattle.fix_model.specs.declared.state.Step.{Step}
use Rattle.fix_model.specs.Application.{Fires, AreMatched, IsEnabled, RowAgrees, after}
use Rattle.fix_model.specs.Fix.{AreAllCovered, Dissents, EndAlike, IsFix}
use Rattle.fix_model.specs.Obeys.{Obeys, RecordAgrees, text_at}
use Rattle.fix_model.specs.Pattern.{Matches}
use Rattle.fix_model.specs.Rules.{rule_at, from_text, is_folded, step_text}
use Rattle.fix_model.specs.Run.{IsRun, IsMaximalRun, end_of}
use Rattle.fix_model.specs.States.{Fits, cell_at, is_covering, record_of, value_at}
use Rattle.fix_model.specs.Valid.{IsValid, IsValidRule}
use Rattle.fix_model.proofs.Covered.{RowAgrees-values}
use Rattle.fix_model.proofs.Deciding.{decide_equal}
use Rattle.fix_model.proofs.Lengths.{IsCovered-end_of}
use Rattle.fix_model.proofs.Runs.{typed-end_of}
use Rattle.fix_model.proofs.States.{Fits-after}
use Rattle.fix_engine.specs.declared.verdict.Verdict.{Verdict}
use Rattle.fix_engine.specs.declared.verdict.Verdict.TheVariants as verdicts
use Rattle.fix_engine.specs.Departures.{IsInside}
use Rattle.fix_engine.specs.Verdicts.{IsAnswer}
use Rattle.fix_engine.proofs.Ends.{IsInside-end_of, IsInside-start, KeepsTo, cell_at-other, length-record_of}
use Rattle.fix_engine.proofs.Ends.{record_of-at, shown-open, value_at-head, value_at-other}

-- ---- other values with the same texts

-- matching speaks of the values at the conditions alone
pub AreMatched-values : (kit : Kit) (rule : Rule) (values others : ℕ → List ℕ)
    → All (λ cond. values cond.0 ≡ others cond.0) rule.conds → AreMatched kit values rule → AreMatched kit others rule
AreMatched-values kit rule values others same matched = λ k d h.
    let cond = get_or rule.conds k d in
    subst (λ text. Matches (is_folded kit cond.0) cond.1 text) (same k d h) (matched k d h)

-- an end at which the same is covered, with the same values, has the same record
pub same_record : (kit : Kit) (state end other : State) → end.typed ≡ state.typed → other.typed ≡ state.typed
    → IsInside kit end other → IsInside kit other end → record_of kit end ≡ record_of kit other
same_record kit state end other typed typed' inside inside' =
    ext_get_or [] (record_of kit end) (record_of kit other)
    (length-record_of kit end ∙ sym (length-record_of kit other)) (λ attribute h.
    let within : attribute < kit.width = rw (length-record_of kit end) at h in
    record_of-at kit end attribute within ∙ alike attribute ∙ sym (record_of-at kit other attribute within))
  where
    alike : (attribute : ℕ) → value_at kit end attribute ≡ value_at kit other attribute
    alike attribute = elim (cases_Bool (is_covering (cell_at end attribute))) [
      | inl covers ↦ inside.value attribute covers
      | inr none ↦ elim (cases_Bool (is_covering (cell_at other attribute))) [
        | inl covers ↦ sym (inside'.value attribute covers)
        | inr none' ↦
            shown-open kit (cell_at end attribute) (get_or end.typed attribute []) none
            ∙ ap (λ (texts : List (List ℕ)). get_or texts attribute []) (typed ∙ sym typed')
            ∙ sym (shown-open kit (cell_at other attribute) (get_or other.typed attribute []) none')
      ]
    ]

module _ (kit : Kit) (valid : IsValid kit) (texts : List (List ℕ)) (obeys : Obeys kit texts) where
  -- ---- what the record has of the rules

  -- the record has the text of each row that agrees with a state that it agrees with
  pub text_of_row : (state : State) (step : Step) → RecordAgrees kit state texts → step.rule < length kit.rules
      → IsEnabled kit state (rule_at kit step.rule)
      → RowAgrees kit (value_at kit state) (rule_at kit step.rule) step.row
      → text_at texts (rule_at kit step.rule).head ≡ step_text kit step
  text_of_row state step agrees within enabled row =
      let here = rule_at kit step.rule in
      let rule : IsValidRule kit here = valid.rules step.rule _ within in
      let keys : All (λ key. value_at kit state key.0 ≡ text_at texts key.0) here.keys =
      λ k d h. sym (agrees.covered (get_or here.keys k d).0 (rule.keys.attributes k d h) (enabled.keys k d h)) in
      let conds : All (λ cond. value_at kit state cond.0 ≡ text_at texts cond.0) here.conds =
      λ k d h. sym (agrees.covered (get_or here.conds k d).0 (rule.conds.attributes k d h) (enabled.conds k d h)) in
      obeys step.rule step.row within (RowAgrees-values kit here (value_at kit state) (text_at texts) keys step.row row)
      (AreMatched-values kit here (value_at kit state) (text_at texts) conds enabled.matched)

  -- the record agrees after a step
  RecordAgrees-after : (state : State) (step : Step) → Fits kit state → Fires kit state step
      → RecordAgrees kit state texts → RecordAgrees kit (after kit state step) texts
  RecordAgrees-after state step fits fires agrees = record {
    width = agrees.width;
    covered = λ attribute within is. elim (cases_Bool (eqb attribute (rule_at kit step.rule).head)) [
      | inl same ↦
          rw (eqb-true attribute (rule_at kit step.rule).head same)
          (text_of_row state step agrees fires.rule_within fires.enabled fires.agrees
          ∙ sym (value_at-head kit valid state step fits fires))
      | inr other ↦
          let apart = eqb-false attribute (rule_at kit step.rule).head other in
          agrees.covered attribute within (rw (cell_at-other kit valid state step fits fires attribute apart) at is)
          ∙ sym (value_at-other kit valid state step fits fires attribute apart)
    ];
  }

  -- and at the end of each run
  pub RecordAgrees-end_of : (state : State) (run : List Step) → Fits kit state → IsRun kit state run
      → RecordAgrees kit state texts → RecordAgrees kit (end_of kit state run) texts
  RecordAgrees-end_of state [] fits whole agrees = agrees
  RecordAgrees-end_of state (step ∷ rest) fits whole agrees =
      RecordAgrees-end_of (after kit state step) rest (Fits-after kit state step fits whole.0) whole.1
      (RecordAgrees-after state step fits whole.0 agrees)

  -- no step dissents from the record
  pub no_dissent : (state : State) (step : Step) → RecordAgrees kit state texts → ¬ Dissents kit state step
  no_dissent state step agrees dissents =
      let rule : IsValidRule kit (rule_at kit step.rule) = valid.rules step.rule _ dissents.rule_within in
      dissents.differs (sym (text_of_row state step agrees dissents.rule_within dissents.enabled dissents.agrees)
      ∙ agrees.covered (rule_at kit step.rule).head rule.head dissents.covered)

  -- ---- every maximal run ends in one record

  -- each run keeps to the values of an end that the record agrees with
  KeepsTo-true : (end state : State) (run : List Step) → RecordAgrees kit end texts → Fits kit state
      → IsRun kit state run → RecordAgrees kit state texts → KeepsTo kit end run
  KeepsTo-true end state [] there fits whole agrees = tt
  KeepsTo-true end state (step ∷ rest) there fits whole agrees =
      let rule : IsValidRule kit (rule_at kit step.rule) = valid.rules step.rule _ whole.0.rule_within in (
        (λ covered. sym (text_of_row state step agrees whole.0.rule_within whole.0.enabled whole.0.agrees)
            ∙ there.covered (rule_at kit step.rule).head rule.head covered),
        KeepsTo-true end (after kit state step) rest there (Fits-after kit state step fits whole.0) whole.1
            (RecordAgrees-after state step fits whole.0 agrees),
      )

  -- a run stays inside the end of every maximal run
  IsInside-true : (state : State) (run other : List Step) → Fits kit state → RecordAgrees kit state texts
      → IsRun kit state run → IsMaximalRun kit state other
      → IsInside kit (end_of kit state run) (end_of kit state other)
  IsInside-true state run other fits agrees whole maximal =
      let end = end_of kit state other in
      IsInside-end_of kit valid end state run maximal.1 fits (IsInside-start kit valid state other maximal.0) whole
      (KeepsTo-true end state run (RecordAgrees-end_of state other fits maximal.0 agrees) fits whole agrees)

  -- so all maximal runs end in one record
  pub EndAlike-true : (state : State) (run other : List Step) → Fits kit state → RecordAgrees kit state texts
      → IsMaximalRun kit state run → IsMaximalRun kit state other → EndAlike kit state run other
  EndAlike-true state run other fits agrees one two =
      same_record kit state (end_of kit state run) (end_of kit state other) (typed-end_of kit state run)
      (typed-end_of kit state other) (IsInside-true state run other fits agrees one.0 two)
      (IsInside-true state other run fits agrees two.0 one)

  -- ---- the answer is a fix without a dissent

  -- the first run of an answer is maximal
  maximal_first : (state : State) (first second : List Step) (verdict : Verdict)
      → IsAnswer kit state first second verdict → IsMaximalRun kit state first
  maximal_first state first second (verdicts.Fix certain dissent) answer = answer.0.is_first.holds
  maximal_first state first second verdicts.Conflict answer = answer.is_first.holds

  -- the record agrees with the end of an answer's first run
  pub RecordAgrees-first : (state : State) (first second : List Step) (verdict : Verdict) → Fits kit state
      → RecordAgrees kit state texts → IsAnswer kit state first second verdict
      → RecordAgrees kit (end_of kit state first) texts
  RecordAgrees-first state first second verdict fits agrees answer =
      RecordAgrees-end_of state first fits (maximal_first state first second verdict answer).0 agrees

  -- the answer is a fix, and no step dissents
  pub IsAnswer-fix : (state : State) (first second : List Step) (verdict : Verdict) → Fits kit state
      → RecordAgrees kit state texts → IsAnswer kit state first second verdict
      → (certain : Bool) × (verdict ≡ verdicts.Fix certain None)
  IsAnswer-fix state first second (verdicts.Fix certain None) fits agrees answer = (certain, refl)
  IsAnswer-fix state first second (verdicts.Fix certain (Some step)) fits agrees answer =
      absurd (no_dissent (end_of kit state first) step
      (RecordAgrees-first state first second (verdicts.Fix certain (Some step)) fits agrees answer)
      answer.0.is_dissent.holds)
  IsAnswer-fix state first second verdicts.Conflict fits agrees answer =
      absurd (answer.is_second.holds.differs (EndAlike-true state first second fits agrees answer.is_first.holds
      answer.is_second.holds.maximal))

module _ (kit : Kit) (valid : IsValid kit) (state : State) (fits : Fits kit state) (first : List Step) where
  -- ---- the record of a certain fix

  -- where all attributes are covered, each value stands in the record
  in_record : (end : State) (attribute : ℕ) → attribute < kit.width
      → value_at kit end attribute ≡ text_at (record_of kit end) attribute
  in_record end attribute within = sym (record_of-at kit end attribute within)

  -- the record of the end of a run agrees with the state
  pub RecordAgrees-own : IsRun kit state first → RecordAgrees kit state (record_of kit (end_of kit state first))
  RecordAgrees-own whole = record {
    width = length-record_of kit (end_of kit state first);
    covered = λ attribute within is. record_of-at kit (end_of kit state first) attribute within
        ∙ (IsCovered-end_of kit state first attribute whole is).1;
  }

  -- the record of a certain fix without dissent obeys the rules
  pub Obeys-own : IsFix kit state first true None → Obeys kit (record_of kit (end_of kit state first))
  Obeys-own fix = λ place row within agrees matched.
      let end = end_of kit state first in
      let texts = record_of kit end in
      let here = rule_at kit place in
      let rule : IsValidRule kit here = valid.rules place _ within in
      let all : AreAllCovered kit end = fix.is_certain.0 refl in
      let keys : All (λ key. text_at texts key.0 ≡ value_at kit end key.0) here.keys =
      λ k d h. record_of-at kit end (get_or here.keys k d).0 (rule.keys.attributes k d h) in
      let conds : All (λ cond. text_at texts cond.0 ≡ value_at kit end cond.0) here.conds =
      λ k d h. record_of-at kit end (get_or here.conds k d).0 (rule.conds.attributes k d h) in
      let step : Step = record { rule = place; row = row } in
      record_of-at kit end here.head rule.head
      ∙ elim (decide_equal (value_at kit end here.head) (from_text kit here row)) [
        | inl same ↦ same
        | inr differs ↦
            absurd (fix.is_dissent step (record {
              rule_within = within;
              enabled = record {
                keys = λ k d h. all (get_or here.keys k d).0 (rule.keys.attributes k d h);
                conds = λ k d h. all (get_or here.conds k d).0 (rule.conds.attributes k d h);
                matched = AreMatched-values kit here (text_at texts) (value_at kit end) conds matched;
              };
              covered = all here.head rule.head;
              agrees = RowAgrees-values kit here (text_at texts) (value_at kit end) keys row agrees;
              differs = λ same. differs (sym same);
            }))
      ]

  -- and every record that agrees and obeys is this one
  pub only_record : IsFix kit state first true None → (texts : List (List ℕ)) → RecordAgrees kit state texts
      → Obeys kit texts → texts ≡ record_of kit (end_of kit state first)
  only_record fix texts agrees obeys =
      let end = end_of kit state first in
      let there = RecordAgrees-end_of kit valid texts obeys state first fits fix.is_first.holds.0 agrees in
      let all : AreAllCovered kit end = fix.is_certain.0 refl in
      ext_get_or [] texts (record_of kit end) (agrees.width ∙ sym (length-record_of kit end)) (λ attribute h.
      let within : attribute < kit.width = rw agrees.width at h in
      there.covered attribute within (all attribute within) ∙ sym (record_of-at kit end attribute within))

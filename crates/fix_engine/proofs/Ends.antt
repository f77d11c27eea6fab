-- A run that keeps to the values at the end of a maximal run stays inside that end.
use Rattle.std.proofs.Common.{◌≡◌, ◌≢◌, ◌<◌, ◌∙◌, ℕ, false, List, [], ◌∷◌, length, get_or, refl, sym, ap, subst, eqb}
use Rattle.std.proofs.Common.{eqb-true, inl, inr, arith}
use Rattle.std.specs.Prelude.{All, ⊤}
use Rattle.std.proofs.lemmas.Bool.{cases_Bool, eqb-false}
use Rattle.std.proofs.lemmas.List.{get_or-set_same, get_or-set_other}
use Rattle.std.proofs.lemmas.List.FromFn.{get_or-map-range_with_len, length-map-range_with_len}
use Rattle.fix_model.specs.declared.kit.Kit.{Kit}
use Rattle.fix_model.specs.declared.rule.Rule.{Rule}
use Rattle.fix_model.specs.declared.state.Cell.{Cell}
use Rattle.fix_model.specs.declared.state.Cell.TheVariants.{Uncovered, Confirmed, Fixed}
use Rattle.fix_model.specs.declared.state.State.{State}
use Rattle.fix_model.specs.declared.state.Step.{Step}
use Rattle.fix_model.specs.Application.{Fires, IsEnabled, RowAgrees, after}
use Rattle.fix_model.specs.Fix.{EndAlike}
use Rattle.fix_model.specs.Pattern.{Matches}
use Rattle.fix_model.specs.Rules.{rule_at, is_folded, step_text}
use Rattle.fix_model.specs.Run.{IsFinal, IsRun, IsMaximalRun, end_of}
use Rattle.fix_model.specs.States.{Fits, IsCovered, cell_at, is_covering, record_of, shown, value_at}
use Rattle.fix_model.specs.Valid.{IsValid, IsValidRule}
use Rattle.fix_engine.specs.Departures.{IsInside}
use Rattle.fix_model.proofs.Counts.{head_within}
use Rattle.fix_model.proofs.Covered.{RowAgrees-values}
use Rattle.fix_model.proofs.Lengths.{IsCovered-end_of}
use Rattle.fix_model.proofs.States.{Fits-after}

module _ (kit : Kit) (state end : State) (inside : IsInside kit state end) where
  -- a rule that is enabled inside is enabled at the end
  pub IsEnabled-inside : (rule : Rule) → IsEnabled kit state rule → IsEnabled kit end rule
  IsEnabled-inside rule enabled = record {
    keys = λ k d h. inside.covered (get_or rule.keys k d).0 (enabled.keys k d h);
    conds = λ k d h. inside.covered (get_or rule.conds k d).0 (enabled.conds k d h);
    matched = λ k d h.
        let cond = get_or rule.conds k d in
        subst (λ text. Matches (is_folded kit cond.0) cond.1 text) (inside.value cond.0 (enabled.conds k d h))
        (enabled.matched k d h);
  }

  -- and a row that agrees agrees there
  pub RowAgrees-inside : (rule : Rule) (row : ℕ) → All (λ key. IsCovered state key.0) rule.keys
      → RowAgrees kit (value_at kit state) rule row → RowAgrees kit (value_at kit end) rule row
  RowAgrees-inside rule row covered agrees =
      RowAgrees-values kit rule (value_at kit state) (value_at kit end)
      (λ k d h. inside.value (get_or rule.keys k d).0 (covered k d h)) row agrees

  -- so the head of a step that fires is covered at an end where nothing fires
  pub IsCovered-head : (step : Step) → IsFinal kit end → Fires kit state step
      → IsCovered end (rule_at kit step.rule).head
  IsCovered-head step final fires = elim (cases_Bool (is_covering (cell_at end (rule_at kit step.rule).head))) [
    | inl covers ↦ covers
    | inr none ↦
        absurd (final step (record {
          rule_within = fires.rule_within;
          enabled = IsEnabled-inside (rule_at kit step.rule) fires.enabled;
          uncovered = λ covers. absurd cc;
          agrees = RowAgrees-inside (rule_at kit step.rule) step.row fires.enabled.keys fires.agrees;
        }))
  ]

-- each step gives its head the value that the head has at the end, where it is covered there
abbrev pub KeepsTo : Kit → State → List Step → Type 0
KeepsTo kit end [] = ⊤
KeepsTo kit end (step ∷ rest) = (IsCovered end (rule_at kit step.rule).head
    → step_text kit step ≡ value_at kit end (rule_at kit step.rule).head) × KeepsTo kit end rest

-- what is shown at a cell that covers nothing is what was typed
pub shown-open : (kit : Kit) (cell : Cell) (typed : List ℕ) → is_covering cell ≡ false → shown kit cell typed ≡ typed
shown-open kit Uncovered typed none = refl
shown-open kit Confirmed typed none = absurd cc
shown-open kit (Fixed step) typed none = absurd cc

module _ (kit : Kit) (state : State) where
  -- the value of an attribute in the record
  pub record_of-at : (attribute : ℕ) → attribute < kit.width
      → get_or (record_of kit state) attribute [] ≡ value_at kit state attribute
  record_of-at attribute within =
      get_or-map-range_with_len (value_at kit state) 0 kit.width attribute attribute [] within (omega arith)

  -- the record has a value for each attribute
  pub length-record_of : length (record_of kit state) ≡ kit.width
  length-record_of = length-map-range_with_len (value_at kit state) 0 kit.width

-- one record has one value at each attribute
pub same_value : (kit : Kit) (state other : State) (attribute : ℕ) → attribute < kit.width
    → record_of kit state ≡ record_of kit other → value_at kit state attribute ≡ value_at kit other attribute
same_value kit state other attribute within same =
    sym (record_of-at kit state attribute within) ∙ ap (λ (texts : List (List ℕ)). get_or texts attribute []) same
    ∙ record_of-at kit other attribute within

module _ (kit : Kit) (valid : IsValid kit) where
  -- the head of a step that fires is an attribute
  pub head-within : (state : State) (step : Step) → Fires kit state step → (rule_at kit step.rule).head < kit.width
  head-within state step fires =
      let rule : IsValidRule kit (rule_at kit step.rule) = valid.rules step.rule _ fires.rule_within in
      rule.head

  module _ (state : State) (step : Step) (fits : Fits kit state) (fires : Fires kit state step) where
    -- after a step its head has the cell of the step
    pub cell_at-head : cell_at (after kit state step) (rule_at kit step.rule).head ≡ Fixed step
    cell_at-head = get_or-set_same state.cells (rule_at kit step.rule).head (Fixed step) Uncovered
        (head_within kit state step.rule valid fits fires.rule_within)

    -- and the text of the step
    pub value_at-head : value_at kit (after kit state step) (rule_at kit step.rule).head ≡ step_text kit step
    value_at-head = ap (λ (cell : Cell). shown kit cell (get_or state.typed (rule_at kit step.rule).head []))
        cell_at-head

    -- the other cells stay
    pub cell_at-other : (attribute : ℕ) → attribute ≢ (rule_at kit step.rule).head
        → cell_at (after kit state step) attribute ≡ cell_at state attribute
    cell_at-other attribute other =
        get_or-set_other state.cells (rule_at kit step.rule).head attribute (Fixed step) Uncovered other

    -- and so do the other values
    pub value_at-other : (attribute : ℕ) → attribute ≢ (rule_at kit step.rule).head
        → value_at kit (after kit state step) attribute ≡ value_at kit state attribute
    value_at-other attribute other =
        ap (λ (cell : Cell). shown kit cell (get_or state.typed attribute [])) (cell_at-other attribute other)

    -- a step that gives its head the value at the end stays inside
    pub IsInside-after : (end : State) → IsInside kit state end → IsCovered end (rule_at kit step.rule).head
        → step_text kit step ≡ value_at kit end (rule_at kit step.rule).head → IsInside kit (after kit state step) end
    IsInside-after end inside covered keeps = record {
      covered = λ attribute is. elim (cases_Bool (eqb attribute (rule_at kit step.rule).head)) [
        | inl same ↦ rw (eqb-true attribute (rule_at kit step.rule).head same) covered
        | inr other ↦ inside.covered attribute
            (rw (cell_at-other attribute (eqb-false attribute (rule_at kit step.rule).head other)) at is)
      ];
      value = λ attribute is. elim (cases_Bool (eqb attribute (rule_at kit step.rule).head)) [
        | inl same ↦ rw (eqb-true attribute (rule_at kit step.rule).head same) (value_at-head ∙ keeps)
        | inr other ↦
            let apart = eqb-false attribute (rule_at kit step.rule).head other in
            value_at-other attribute apart ∙ inside.value attribute (rw (cell_at-other attribute apart) at is)
      ];
    }

  -- a run that keeps to the values of an end where nothing fires stays inside it
  pub IsInside-end_of : (end state : State) (run : List Step) → IsFinal kit end → Fits kit state
      → IsInside kit state end → IsRun kit state run → KeepsTo kit end run → IsInside kit (end_of kit state run) end
  IsInside-end_of end state [] final fits inside whole keeps = inside
  IsInside-end_of end state (step ∷ rest) final fits inside whole keeps =
      let covered = IsCovered-head kit state end inside step final whole.0 in
      IsInside-end_of end (after kit state step) rest final (Fits-after kit state step fits whole.0)
      (IsInside-after state step fits whole.0 end inside covered (keeps.0 covered)) whole.1 keeps.1

  -- a run keeps to the values of its own record
  pub KeepsTo-record : (end state : State) (run : List Step) → Fits kit state → IsRun kit state run
      → record_of kit (end_of kit state run) ≡ record_of kit end → KeepsTo kit end run
  KeepsTo-record end state [] fits whole same = tt
  KeepsTo-record end state (step ∷ rest) fits whole same =
      let head = (rule_at kit step.rule).head in
      let next = after kit state step in
      let covers : IsCovered next head = rw (cell_at-head state step fits whole.0) refl in
      let later = IsCovered-end_of kit next rest head whole.1 covers in
      let there = same_value kit (end_of kit next rest) end head (head-within state step whole.0) same in (
        (λ covered. sym (value_at-head state step fits whole.0) ∙ sym later.1 ∙ there),
        KeepsTo-record end next rest
            (Fits-after kit state step fits whole.0) whole.1 same,
      )

  -- each run begins inside its end
  pub IsInside-start : (state : State) (run : List Step) → IsRun kit state run
      → IsInside kit state (end_of kit state run)
  IsInside-start state run whole = record {
    covered = λ attribute is. (IsCovered-end_of kit state run attribute whole is).0;
    value = λ attribute is. sym (IsCovered-end_of kit state run attribute whole is).1;
  }

  -- of two maximal runs that end in one record, the end of the one is inside that of the other
  pub IsInside-alike : (state : State) (run other : List Step) → Fits kit state → IsRun kit state run
      → IsMaximalRun kit state other → EndAlike kit state run other
      → IsInside kit (end_of kit state run) (end_of kit state other)
  IsInside-alike state run other fits whole maximal alike =
      IsInside-end_of (end_of kit state other) state run maximal.1 fits (IsInside-start state other maximal.0) whole
      (KeepsTo-record (end_of kit state other) state run fits whole alike)

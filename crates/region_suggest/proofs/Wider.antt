-- Confirming more than a state: its run is a run still, and what it leads to beyond was hoped for.
use Rattle.std.proofs.Common.{◌⊎◌, ◌<◌, ◌≤◌, ◌∙◌, ℕ, Bool, List, [], ◌∷◌, ◌++◌, eqb, eqb-true, get_or, length, refl}
use Rattle.std.proofs.Common.{sym, ap, inl, inr, arith}
use Rattle.std.specs.Prelude.{Contains}
use Rattle.std.proofs.lemmas.Bool.{cases_Bool, eqb-false}
use Rattle.fix_model.specs.declared.kit.Kit.{Kit}
use Rattle.fix_model.specs.declared.state.Cell.{Cell}
use Rattle.fix_model.specs.declared.state.Cell.TheVariants.{Uncovered}
use Rattle.fix_model.specs.declared.state.State.{State}
use Rattle.fix_model.specs.declared.state.Step.{Step}
use Rattle.fix_model.specs.Alike.{AreAlike}
use Rattle.fix_model.specs.Application.{Fires, after}
use Rattle.fix_model.specs.Pattern.{Matches}
use Rattle.fix_model.specs.Rules.{is_folded, master_text, rule_at}
use Rattle.fix_model.specs.Run.{IsRun, end_of}
use Rattle.fix_model.specs.States.{Fits, IsCovered, cell_at, is_covering, shown, value_at}
use Rattle.fix_model.specs.Valid.{IsValid}
use Rattle.fix_model.proofs.Covered.{IsCovered-after}
use Rattle.fix_model.proofs.Deciding.{decide_less}
use Rattle.std.proofs.Math.ListN.{get_or-eq_default}
use Rattle.fix_model.proofs.Filters.{All-filter_where}
use Rattle.fix_model.proofs.Lengths.{IsCovered-end_of}
use Rattle.fix_model.proofs.States.{Fits-after}
use Rattle.fix_engine.specs.Departures.{IsInside}
use Rattle.fix_engine.specs.Flags.{IsFlagged}
use Rattle.fix_engine.proofs.Ends.{IsEnabled-inside, IsInside-after, RowAgrees-inside, cell_at-head, cell_at-other}
use Rattle.fix_engine.proofs.Ends.{value_at-head}
use Rattle.region_suggest.specs.Hope.{ConfirmsMore, IsHopeClosed, IsOpen}
use Rattle.fix_engine.proofs.Rows.{Contains-is_listed, is_listed-Contains}
use Rattle.fix_engine.proofs.Departures.{IsInside-step, IsInside-then}
use Rattle.desk_base.specs.Places.{is_listed}

-- the rest of a run is a run from the end of its beginning
pub IsRun-following : (kit : Kit) (state : State) (run rest : List Step) → IsRun kit state (run ++ rest)
    → IsRun kit (end_of kit state run) rest
IsRun-following kit state [] rest whole = whole
IsRun-following kit state (step ∷ run) rest whole = IsRun-following kit (after kit state step) run rest whole.1

-- what is covered is an attribute
pub IsCovered-within : (kit : Kit) (state : State) → Fits kit state → (attribute : ℕ) → IsCovered state attribute
    → attribute < kit.width
IsCovered-within kit state fits attribute covered = elim (decide_less attribute kit.width) [
  | inl within ↦ within
  | inr past ↦ absurd (
      let none = get_or-eq_default state.cells Uncovered (beyond attribute past) in
      let told = rw none at covered in cc)
]
  where
    beyond : (attribute : ℕ) → ¬ (attribute < kit.width) → length state.cells ≤ attribute
    beyond attribute past = omega (arith, fits.cells, past)

-- the other state covers what the one covers, with the same values, and of the rest these attributes alone
pub record IsWider (kit : Kit) (one other : State) (attributes : List ℕ) : Type 0 where
  pub inside : IsInside kit one other
  pub only : (attribute : ℕ) → IsCovered other attribute → IsCovered one attribute ⊎ Contains attributes attribute

-- a list contains an attribute, or it does not
pub decide_listed : (attributes : List ℕ) (attribute : ℕ)
    → Contains attributes attribute ⊎ (Contains attributes attribute → ⊥)
decide_listed attributes attribute = elim (cases_Bool (is_listed attributes attribute)) [
  | inl listed ↦ inl (is_listed-Contains attributes attribute listed)
  | inr not_there ↦ inr (λ h. let told = Contains-is_listed attributes attribute h in cc)
]

-- a state that confirms more is wider
pub IsWider-start : (kit : Kit) (one other : State) (attributes : List ℕ) → ConfirmsMore one other attributes
    → ((attribute : ℕ) → Contains attributes attribute → ¬ IsCovered one attribute) → IsWider kit one other attributes
IsWider-start kit one other attributes confirms open_there = record {
  inside = record {
    covered = λ attribute is. rw (confirms.cells attribute (λ h. open_there attribute h is)) is;
    value = λ attribute is.
        let cell = confirms.cells attribute (λ h. open_there attribute h is) in
        let typed = confirms.typed attribute (λ h. open_there attribute h is) in
        sym (ap (λ (c : Cell). shown kit c (get_or other.typed attribute [])) cell
        ∙ ap (λ text. shown kit (cell_at one attribute) text) typed);
  };
  only = λ attribute is. elim (decide_listed attributes attribute) [
    | inl listed ↦ inr listed
    | inr not_there ↦ inl (rw (confirms.cells attribute not_there) at is)
  ];
}

module _ (kit : Kit) (valid : IsValid kit) (attributes : List ℕ) where
  -- a step that fires at the one fires at the wider one, where its head is none of the attributes
  Fires-wider : (one other : State) (step : Step) → IsWider kit one other attributes → Fires kit one step
      → (Contains attributes (rule_at kit step.rule).head → ⊥) → Fires kit other step
  Fires-wider one other step wider fires apart = record {
    rule_within = fires.rule_within;
    enabled = IsEnabled-inside kit one other wider.inside (rule_at kit step.rule) fires.enabled;
    uncovered = λ is. elim (wider.only (rule_at kit step.rule).head is) [
      | inl covered ↦ absurd (fires.uncovered covered)
      | inr listed ↦ absurd (apart listed)
    ];
    agrees = RowAgrees-inside kit one other wider.inside (rule_at kit step.rule) step.row fires.enabled.keys
        fires.agrees;
  }

  -- and leads to a wider state again
  IsWider-after : (one other : State) (step : Step) → IsWider kit one other attributes → Fits kit one → Fits kit other
      → Fires kit one step → Fires kit other step → IsWider kit (after kit one step) (after kit other step) attributes
  IsWider-after one other step wider fits fits' fires fires' = record {
    inside = IsInside-after kit valid one step fits fires (after kit other step)
        (IsInside-then kit one other (after kit other step) wider.inside (IsInside-step kit other step fires'))
        (rw (cell_at-head kit valid other step fits' fires') refl)
        (sym (value_at-head kit valid other step fits' fires'));
    only = λ attribute is. elim (cases_Bool (eqb attribute (rule_at kit step.rule).head)) [
      | inl same ↦ inl (rw (
        eqb-true attribute (rule_at kit step.rule).head same,
        cell_at-head kit valid one step fits
            fires,
      ) refl)
      | inr differs ↦
          let apart = eqb-false attribute (rule_at kit step.rule).head differs in
          elim (wider.only attribute (rw (cell_at-other kit valid other step fits' fires' attribute apart) at is)) [
            | inl covered ↦ inl (IsCovered-after kit one step fires attribute covered)
            | inr listed ↦ inr listed
          ]
    ];
  }

  -- a run that covers none of the attributes is a run from the wider state, and leads to a wider end
  pub IsRun-wider : (one other : State) (run : List Step) → IsWider kit one other attributes → Fits kit one
      → Fits kit other
      → IsRun kit one run → ((attribute : ℕ) → Contains attributes attribute
      → ¬ IsCovered (end_of kit one run) attribute)
      → IsRun kit other run × IsWider kit (end_of kit one run) (end_of kit other run) attributes
      × Fits kit (end_of kit other run)
  IsRun-wider one other [] wider fits fits' whole open_there = (tt, wider, fits')
  IsRun-wider one other (step ∷ rest) wider fits fits' whole open_there = let head = (rule_at kit step.rule).head in
      let next = after kit one step in
      let covers : IsCovered next head = rw (cell_at-head kit valid one step fits whole.0) refl in
      let apart : Contains attributes head → ⊥ =
      λ h. open_there head h (IsCovered-end_of kit next rest head whole.1 covers).0 in
      let fires' = Fires-wider one other step wider whole.0 apart in
      let (whole', wider', ends') = IsRun-wider next (after kit other step) rest
      (IsWider-after one other step wider fits fits' whole.0 fires')
      (Fits-after kit one step fits whole.0) (Fits-after kit other step fits' fires') whole.1 open_there in
      ((fires', whole'), wider', ends')

  module _ (end : State) (flags : List Bool) (closed : IsHopeClosed kit end (Contains attributes) flags) where
    -- a rule that is applied beyond the end was open there
    IsOpen-beyond : (state : State) (step : Step) → IsInside kit end state → Fires kit state step
        → (IsCovered end (rule_at kit step.rule).head → ⊥) → IsOpen kit end (rule_at kit step.rule)
    IsOpen-beyond state step inside fires open_head = let rule = rule_at kit step.rule in
        record {
          uncovered = open_head;
          matched = λ k d h covered.
              let cond = get_or rule.conds k d in
              let told : Matches (is_folded kit cond.0) cond.1 (value_at kit state cond.0) =
              fires.enabled.matched k d h in
              rw (inside.value cond.0 covered) told;
          agrees = (
            step.row,
            record {
              usable = fires.agrees.usable;
              alike = All-filter_where (λ key. AreAlike (is_folded kit key.0) (value_at kit end key.0)
                  (master_text kit rule step.row key.1))
                  (λ key. is_covering (cell_at end key.0)) rule.keys
                  (λ k d h covered.
                  let key = get_or rule.keys k d in
                  let told : AreAlike (is_folded kit key.0) (value_at kit state key.0)
                  (master_text kit rule step.row key.1) = fires.agrees.alike k d h in
                  rw (inside.value key.0 covered) told);
            },
          );
        }

    -- so what is covered beyond it is in each closed set
    pub covered-closed : (state : State) (run : List Step) → Fits kit state → IsInside kit end state
        → IsRun kit state run
        → ((attribute : ℕ) → IsCovered state attribute → IsFlagged flags attribute)
        → (attribute : ℕ) → IsCovered (end_of kit state run) attribute → IsFlagged flags attribute
    covered-closed state [] fits inside whole held attribute is = held attribute is
    covered-closed state (step ∷ rest) fits inside whole held attribute is = let rule = rule_at kit step.rule in
        let fires = whole.0 in
        let head : IsFlagged flags rule.head = elim (cases_Bool (is_covering (cell_at end rule.head))) [
          | inl covered ↦ closed.covered rule.head covered
          | inr not_covered ↦ closed.heads step.rule fires.rule_within
              (IsOpen-beyond state step inside fires (λ covered. let f = not_covered in cc))
              (record {
                keys = λ k d h. held (get_or rule.keys k d).0 (fires.enabled.keys k d h);
                conds = λ k d h. held (get_or rule.conds k d).0 (fires.enabled.conds k d h);
              })
        ] in
        covered-closed (after kit state step) rest (Fits-after kit state step fits fires)
        (IsInside-then kit end state (after kit state step) inside (IsInside-step kit state step fires)) whole.1
        (λ other covered. elim (cases_Bool (eqb other rule.head)) [
          | inl same ↦ rw (eqb-true other rule.head same) head
          | inr differs ↦ held other (rw (cell_at-other kit valid state step fits fires other
              (eqb-false other rule.head differs)) at covered)
        ]) attribute is

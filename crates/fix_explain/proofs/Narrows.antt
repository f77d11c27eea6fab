-- States that cover less than another, but have its cells where they are wanted.
use Rattle.std.proofs.Common.{◌≡◌, ◌≢◌, ◌<◌, ◌∙◌, ℕ, get_or, inl, inr, length, refl, subst, sym}
use Rattle.std.specs.Prelude.{IsSome, IsTrue}
use Rattle.std.proofs.lemmas.Bool.{cases_eq}
use Rattle.fix_model.specs.declared.kit.Kit.{Kit}
use Rattle.fix_model.specs.declared.pattern.Pat.{Pat}
use Rattle.fix_model.specs.declared.state.Cell.{Cell}
use Rattle.fix_model.specs.declared.state.Cell.TheVariants.{Uncovered, Confirmed, Fixed}
use Rattle.fix_model.specs.declared.state.State.{State}
use Rattle.fix_model.specs.declared.state.Step.{Step}
use Rattle.fix_model.specs.Application.{Fires, after}
use Rattle.fix_model.specs.Pattern.{Matches}
use Rattle.fix_model.specs.Rules.{is_folded, rule_at}
use Rattle.fix_model.specs.States.{Fits, IsCovered, cell_at, fixed_by, is_covering, value_at}
use Rattle.fix_model.specs.Valid.{IsValid}
use Rattle.fix_model.proofs.Covered.{IsCovered-after, RowAgrees-values, value_at-after}
use Rattle.fix_engine.specs.Departures.{IsInside}
use Rattle.fix_engine.proofs.Ends.{IsInside-after, cell_at-head, cell_at-other, value_at-head}
use Rattle.fix_explain.specs.Reasons.{IsFixed}
use Rattle.fix_explain.specs.Uses.{Reads}
use Rattle.desk_base.proofs.Lists.{Any-at}

-- the narrow state covers no more than the other
abbrev pub CoversNoMore : State → State → Type 0
CoversNoMore state narrow = (attribute : ℕ) → IsCovered narrow attribute → IsCovered state attribute

-- it covers what is covered at the other and wanted
abbrev pub CoversWanted : (ℕ → Type 0) → State → State → Type 0
CoversWanted wanted state narrow =
    (attribute : ℕ) → wanted attribute → IsCovered state attribute → IsCovered narrow attribute

-- it has the values of the other where it covers, and its cells where these are covered and wanted
pub record Narrows (kit : Kit) (wanted : ℕ → Type 0) (state narrow : State) : Type 0 where
  pub inside : IsInside kit narrow state
  pub kept : (attribute : ℕ) → wanted attribute → IsCovered state attribute
      → cell_at narrow attribute ≡ cell_at state attribute

-- a fixed cell covers
fixed-covers : (cell : Cell) → IsSome (fixed_by cell) → IsTrue (is_covering cell)
fixed-covers Uncovered fixed = absurd cc
fixed-covers Confirmed fixed = absurd cc
fixed-covers (Fixed step) fixed = refl

-- a fixed attribute is covered
pub IsFixed-covered : (state : State) (attribute : ℕ) → IsFixed state attribute → IsCovered state attribute
IsFixed-covered state attribute fixed = fixed-covers (cell_at state attribute) fixed

-- each state narrows itself
pub Narrows-refl : (kit : Kit) (wanted : ℕ → Type 0) (state : State) → Narrows kit wanted state state
Narrows-refl kit wanted state = record {
  inside = record { covered = λ attribute covered. covered; value = λ attribute covered. refl };
  kept = λ attribute is covered. refl;
}

module _ (kit : Kit) (state : State) (step : Step) (fires : Fires kit state step) where
  -- a step that fires at a state fires at a narrower one that keeps what its rule reads
  pub Fires-narrow : (wanted : ℕ → Type 0) (narrow : State) → Narrows kit wanted state narrow
      → ((attribute : ℕ) → Reads (rule_at kit step.rule) attribute → wanted attribute) → Fires kit narrow step
  Fires-narrow wanted narrow narrows reads =
      let rule = rule_at kit step.rule in
      let covers : (attribute : ℕ) → Reads rule attribute → IsCovered state attribute → IsCovered narrow attribute =
      λ attribute read covered. rw (narrows.kept attribute (reads attribute read) covered) covered in
      let key : (k : ℕ) (d : ℕ × ℕ) → k < length rule.keys → IsCovered narrow (get_or rule.keys k d).0 =
      λ k d h. covers (get_or rule.keys k d).0
      (inl (Any-at (λ one. one.0 ≡ (get_or rule.keys k d).0) rule.keys k d h refl)) (fires.enabled.keys k d h) in
      record {
        rule_within = fires.rule_within;
        enabled = record {
          keys = key;
          conds = λ k d h. covers (get_or rule.conds k d).0
              (inr (Any-at (λ one. one.0 ≡ (get_or rule.conds k d).0) rule.conds k d h refl))
              (fires.enabled.conds k d h);
          matched = λ k d h.
              let cond = get_or rule.conds k d in
              subst (λ text. Matches (is_folded kit cond.0) cond.1 text)
              (sym (narrows.inside.value cond.0 (covers cond.0
              (inr (Any-at (λ one. one.0 ≡ cond.0) rule.conds k d h refl)) (fires.enabled.conds k d h))))
              (fires.enabled.matched k d h);
        };
        uncovered = λ covered. fires.uncovered (narrows.inside.covered rule.head covered);
        agrees = RowAgrees-values kit rule (value_at kit state) (value_at kit narrow)
            (λ k d h. sym (narrows.inside.value (get_or rule.keys k d).0 (key k d h))) step.row fires.agrees;
      }

  -- what its rule reads is covered
  pub Reads-covered : (attribute : ℕ) → Reads (rule_at kit step.rule) attribute → IsCovered state attribute
  Reads-covered attribute (inl (place, key, within, stands, is)) =
      subst (λ one. IsCovered state one) is
      (subst (λ (key : ℕ × ℕ). IsCovered state key.0) stands (fires.enabled.keys place key within))
  Reads-covered attribute (inr (place, cond, within, stands, is)) =
      subst (λ one. IsCovered state one) is
      (subst (λ (cond : ℕ × Pat). IsCovered state cond.0) stands (fires.enabled.conds place cond within))

  -- what is inside a state is inside what a step leaves of it
  pub IsInside-passed : (narrow : State) → IsInside kit narrow state → IsInside kit narrow (after kit state step)
  IsInside-passed narrow inside = record {
    covered = λ attribute is. IsCovered-after kit state step fires attribute (inside.covered attribute is);
    value = λ attribute is. inside.value attribute is
        ∙ sym (value_at-after kit state step fires attribute (inside.covered attribute is));
  }

  module _ (valid : IsValid kit) (fits : Fits kit state) where
    -- after a step its head is covered
    pub IsCovered-head : IsCovered (after kit state step) (rule_at kit step.rule).head
    IsCovered-head = rw (cell_at-head kit valid state step fits fires) refl

    module _ (narrow : State) (narrow_fits : Fits kit narrow) (narrow_fires : Fires kit narrow step) where
      -- the step leaves a state that covers no more
      pub CoversNoMore-after : CoversNoMore state narrow → CoversNoMore (after kit state step) (after kit narrow step)
      CoversNoMore-after no_more attribute covered = elim (cases_eq attribute (rule_at kit step.rule).head) [
        | inl same ↦ rw same IsCovered-head
        | inr apart ↦ IsCovered-after kit state step fires attribute (no_more attribute
            (rw (cell_at-other kit valid narrow step narrow_fits narrow_fires attribute apart) at covered))
      ]

      -- and it leaves a narrower one, which keeps what was wanted and the head
      pub Narrows-after : (wanted less : ℕ → Type 0) → Narrows kit wanted state narrow
          → ((attribute : ℕ) → less attribute → wanted attribute)
          → Narrows kit less (after kit state step) (after kit narrow step)
      Narrows-after wanted less narrows fewer = record {
        inside = IsInside-after kit valid narrow step narrow_fits narrow_fires (after kit state step)
            (IsInside-passed narrow narrows.inside) IsCovered-head
            (sym (value_at-head kit valid state step fits fires));
        kept = λ attribute is covered. elim (cases_eq attribute (rule_at kit step.rule).head) [
          | inl same ↦ rw same (cell_at-head kit valid narrow step narrow_fits narrow_fires
              ∙ sym (cell_at-head kit valid state step fits fires))
          | inr apart ↦ cell_at-other kit valid narrow step narrow_fits narrow_fires attribute apart
              ∙ narrows.kept attribute (fewer attribute is)
              (rw (cell_at-other kit valid state step fits fires attribute apart) at covered)
              ∙ sym (cell_at-other kit valid state step fits fires attribute apart)
        ];
      }

    -- a state that narrows another, and wants nothing of the head of a step, narrows what the step leaves
    pub Narrows-passed : (wanted : ℕ → Type 0) (narrow : State) → Narrows kit wanted state narrow
        → ¬ wanted (rule_at kit step.rule).head → Narrows kit wanted (after kit state step) narrow
    Narrows-passed wanted narrow narrows unwanted = record {
      inside = IsInside-passed narrow narrows.inside;
      kept = λ attribute is covered.
          let apart : attribute ≢ (rule_at kit step.rule).head =
          λ same. unwanted (subst wanted same is) in
          narrows.kept attribute is (rw (cell_at-other kit valid state step fits fires attribute apart) at covered)
          ∙ sym (cell_at-other kit valid state step fits fires attribute apart);
    }

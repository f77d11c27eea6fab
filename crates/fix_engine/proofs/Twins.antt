-- States that cover the same attributes with the same values have the same runs.
use Rattle.std.proofs.Common.{◌∙◌, true, List, [], ◌∷◌, refl, sym}
use Rattle.std.specs.Prelude.{Option, Some, None}
use Rattle.fix_model.specs.declared.kit.Kit.{Kit}
use Rattle.fix_model.specs.declared.state.State.{State}
use Rattle.fix_model.specs.declared.state.Step.{Step}
use Rattle.fix_model.specs.Application.{Fires, after}
use Rattle.fix_model.specs.Fix.{AreAllCovered, Dissents, IsDissent, IsFix}
use Rattle.fix_model.specs.Rules.{rule_at}
use Rattle.fix_model.specs.Run.{IsMaximalRun, IsRun, end_of}
use Rattle.fix_model.specs.States.{Fits}
use Rattle.fix_model.specs.Valid.{IsValid}
use Rattle.fix_model.proofs.Runs.{typed-end_of}
use Rattle.fix_model.proofs.States.{Fits-after}
use Rattle.fix_engine.specs.Departures.{IsInside}
use Rattle.fix_engine.proofs.Departures.{IsInside-step, IsInside-then}
use Rattle.fix_engine.proofs.Ends.{IsEnabled-inside, IsInside-after, IsInside-alike, RowAgrees-inside, cell_at-head}
use Rattle.fix_engine.proofs.Ends.{value_at-head}
use Rattle.fix_engine.proofs.Truth.{same_record}

-- the states cover the same attributes, with the same values
pub record AreTwins (kit : Kit) (one other : State) : Type 0 where
  pub there : IsInside kit one other
  pub back : IsInside kit other one

-- so it is the other way round
pub AreTwins-turned : (kit : Kit) (one other : State) → AreTwins kit one other → AreTwins kit other one
AreTwins-turned kit one other twins = record { there = twins.back; back = twins.there }

-- a step that fires at one fires at the other
pub Fires-twins : (kit : Kit) (one other : State) (step : Step) → AreTwins kit one other → Fires kit one step
    → Fires kit other step
Fires-twins kit one other step twins fires = record {
  rule_within = fires.rule_within;
  enabled = IsEnabled-inside kit one other twins.there (rule_at kit step.rule) fires.enabled;
  uncovered = λ is. fires.uncovered (twins.back.covered (rule_at kit step.rule).head is);
  agrees = RowAgrees-inside kit one other twins.there (rule_at kit step.rule) step.row fires.enabled.keys fires.agrees;
}

module _ (kit : Kit) (valid : IsValid kit) where
  -- after a step of both, one lies inside the other
  inside-after : (one other : State) (step : Step) → IsInside kit one other → Fits kit one → Fits kit other
      → Fires kit one step → Fires kit other step → IsInside kit (after kit one step) (after kit other step)
  inside-after one other step inside fits fits' fires fires' =
      IsInside-after kit valid one step fits fires (after kit other step)
      (IsInside-then kit one other (after kit other step) inside (IsInside-step kit other step fires'))
      (rw (cell_at-head kit valid other step fits' fires') refl) (sym (value_at-head kit valid other step fits' fires'))

  -- so they are twins again
  AreTwins-after : (one other : State) (step : Step) → AreTwins kit one other → Fits kit one → Fits kit other
      → Fires kit one step → AreTwins kit (after kit one step) (after kit other step)
  AreTwins-after one other step twins fits fits' fires = let fires' = Fires-twins kit one other step twins fires in
      record {
        there = inside-after one other step twins.there fits fits' fires fires';
        back = inside-after other one step twins.back fits' fits fires' fires;
      }

  -- a run of one is a run of the other
  IsRun-twins : (one other : State) (run : List Step) → AreTwins kit one other → Fits kit one → Fits kit other
      → IsRun kit one run → IsRun kit other run
  IsRun-twins one other [] twins fits fits' whole = tt
  IsRun-twins one other (step ∷ rest) twins fits fits' whole =
      let fires' = Fires-twins kit one other step twins whole.0 in (
        fires',
        IsRun-twins (after kit one step) (after kit other step) rest
            (AreTwins-after one other step twins fits fits' whole.0)
            (Fits-after kit one step fits whole.0) (Fits-after kit other step fits' fires') whole.1,
      )

  -- and its ends are twins
  AreTwins-end_of : (one other : State) (run : List Step) → AreTwins kit one other → Fits kit one → Fits kit other
      → IsRun kit one run → AreTwins kit (end_of kit one run) (end_of kit other run)
  AreTwins-end_of one other [] twins fits fits' whole = twins
  AreTwins-end_of one other (step ∷ rest) twins fits fits' whole =
      let fires' = Fires-twins kit one other step twins whole.0 in
      AreTwins-end_of (after kit one step) (after kit other step) rest
      (AreTwins-after one other step twins fits fits' whole.0)
      (Fits-after kit one step fits whole.0) (Fits-after kit other step fits' fires') whole.1

  -- a maximal run of one is a maximal run of the other
  IsMaximalRun-twins : (one other : State) (run : List Step) → AreTwins kit one other → Fits kit one → Fits kit other
      → IsMaximalRun kit one run → IsMaximalRun kit other run
  IsMaximalRun-twins one other run twins fits fits' maximal =
      let ends = AreTwins-end_of one other run twins fits fits' maximal.0 in (
        IsRun-twins one other run twins fits fits' maximal.0,
        λ step fires. maximal.1 step (Fires-twins kit (end_of kit other run) (end_of kit one run) step
            (AreTwins-turned kit (end_of kit one run) (end_of kit other run) ends) fires),
      )

  -- a step that dissents at one dissents at the other
  Dissents-twins : (one other : State) (step : Step) → AreTwins kit one other → Dissents kit one step
      → Dissents kit other step
  Dissents-twins one other step twins dissents = record {
    rule_within = dissents.rule_within;
    enabled = IsEnabled-inside kit one other twins.there (rule_at kit step.rule) dissents.enabled;
    covered = twins.there.covered (rule_at kit step.rule).head dissents.covered;
    agrees = RowAgrees-inside kit one other twins.there (rule_at kit step.rule) step.row dissents.enabled.keys
        dissents.agrees;
    differs = λ same. dissents.differs (same ∙ sym (twins.there.value (rule_at kit step.rule).head dissents.covered));
  }

  -- so they have the same dissent
  IsDissent-twins : (one other : State) (dissent : Option Step) → AreTwins kit one other → IsDissent kit one dissent
      → IsDissent kit other dissent
  IsDissent-twins one other None twins none = λ step dissents.
      none step (Dissents-twins other one step (AreTwins-turned kit one other twins) dissents)
  IsDissent-twins one other (Some step) twins least = record {
    holds = Dissents-twins one other step twins least.holds;
    least = λ later dissents. least.least later
        (Dissents-twins other one later (AreTwins-turned kit one other twins) dissents);
  }

  -- a certain fix of one is a certain fix of the other
  pub IsFix-twins : (one other : State) (first : List Step) (dissent : Option Step) → AreTwins kit one other
      → Fits kit one → Fits kit other
      → IsFix kit one first true dissent → IsFix kit other first true dissent
  IsFix-twins one other first dissent twins fits fits' fix = let turned = AreTwins-turned kit one other twins in
      let maximal = fix.is_first.holds in
      let ends = AreTwins-end_of one other first twins fits fits' maximal.0 in
      let all : AreAllCovered kit (end_of kit one first) = fix.is_certain.0 refl in
      record {
        is_first = record {
          holds = IsMaximalRun-twins one other first twins fits fits' maximal;
          least = λ run longest. fix.is_first.least run (IsMaximalRun-twins other one run turned fits' fits longest);
        };
        unique = λ run longest.
            let here = IsMaximalRun-twins other one run turned fits' fits longest in
            let alike = fix.unique run here in
            let there = AreTwins-end_of one other run twins fits fits' here.0 in
            let into = IsInside-alike kit valid one first run fits maximal.0 here alike in
            let out_of = IsInside-alike kit valid one run first fits here.0 maximal (sym alike) in
            same_record kit other (end_of kit other first) (end_of kit other run) (typed-end_of kit other first)
            (typed-end_of kit other run)
            (IsInside-then kit (end_of kit other first) (end_of kit one first) (end_of kit other run) ends.back
            (IsInside-then kit (end_of kit one first) (end_of kit one run) (end_of kit other run) into there.there))
            (IsInside-then kit (end_of kit other run) (end_of kit one run) (end_of kit other first) there.back
            (IsInside-then kit (end_of kit one run) (end_of kit one first) (end_of kit other first) out_of ends.there));
        is_certain = ((λ is attribute within. ends.there.covered attribute (all attribute within)), λ is. refl);
        is_dissent = IsDissent-twins (end_of kit one first) (end_of kit other first) dissent ends fix.is_dissent;
      }

-- There is one least at most.
use Rattle.std.proofs.Common.{◌≡◌, ◌↔◌, ◌∙◌, List, [], ◌∷◌, inl, inr, sym, arith, refl}
use Rattle.std.specs.Prelude.{Bool, IsTrue, true, false, Option, Some, None}
use Rattle.fix_model.specs.declared.kit.Kit.{Kit}
use Rattle.fix_model.specs.declared.state.State.{State}
use Rattle.fix_model.specs.declared.state.Step.{Step}
use Rattle.fix_model.specs.FirstRun.{IsFirstRun}
use Rattle.fix_model.specs.Fix.{Differs, Dissents, IsConflict, IsDissent, IsFix, IsSecondRun}
use Rattle.fix_model.specs.Least.{IsLeast}
use Rattle.fix_model.specs.Order.{IsBefore, IsRunBefore}
use Rattle.fix_model.specs.Run.{IsMaximalRun, end_of}
use Rattle.fix_engine.specs.declared.verdict.Verdict.{Verdict}
use Rattle.fix_engine.specs.declared.verdict.Verdict.TheVariants.{Fix, Conflict}
use Rattle.fix_engine.specs.Verdicts.{IsAnswer}

-- no step comes before itself
IsBefore-irreflexive : (step other : Step) → step ≡ other → ¬ IsBefore step other
IsBefore-irreflexive step other same (inl rule) = let r : step.rule ≡ other.rule = cc in omega arith
IsBefore-irreflexive step other same (inr row) = let r : step.row ≡ other.row = cc in omega (arith, row.1)

-- of two steps one comes first
IsBefore-asymmetric : (step other : Step) → IsBefore step other → ¬ IsBefore other step
IsBefore-asymmetric step other (inl one) (inl two) = omega arith
IsBefore-asymmetric step other (inl one) (inr two) = omega (arith, two.0)
IsBefore-asymmetric step other (inr one) (inl two) = omega (arith, one.0)
IsBefore-asymmetric step other (inr one) (inr two) = omega (arith, one.1, two.1)

-- and so of two runs
IsRunBefore-asymmetric : (run other : List Step) → IsRunBefore run other → ¬ IsRunBefore other run
IsRunBefore-asymmetric run [] one two = absurd one
IsRunBefore-asymmetric [] (other ∷ others) one two = absurd two
IsRunBefore-asymmetric (step ∷ rest) (other ∷ others) (inl one) (inl two) = IsBefore-asymmetric step other one two
IsRunBefore-asymmetric (step ∷ rest) (other ∷ others) (inl one) (inr two) =
    IsBefore-irreflexive step other (sym two.0) one
IsRunBefore-asymmetric (step ∷ rest) (other ∷ others) (inr one) (inl two) =
    IsBefore-irreflexive other step (sym one.0) two
IsRunBefore-asymmetric (step ∷ rest) (other ∷ others) (inr one) (inr two) =
    IsRunBefore-asymmetric rest others one.1 two.1

-- there is one least at most, in an order in which no two come before one another
IsLeast-unique : {T : Type 0} (IsBefore : T → T → Type 0) (IsKind : T → Type 0)
    → ((one other : T) → IsBefore one other → ¬ IsBefore other one) → (it other : T) → IsLeast IsBefore IsKind it
    → IsLeast IsBefore IsKind other → it ≡ other
IsLeast-unique IsBefore IsKind apart it other one two = elim (one.least other two.holds) [
  | inl same ↦ same
  | inr before ↦ elim (two.least it one.holds) [
    | inl same ↦ sym same
    | inr following ↦ absurd (apart it other before following)
  ]
]

-- two flags that say the same are one
same_flag : {P : Type 0} (flag other : Bool) → IsTrue flag ↔ P → IsTrue other ↔ P → flag ≡ other
same_flag true true one two = refl
same_flag true false one two = sym (two.1 (one.0 refl))
same_flag false true one two = one.1 (two.0 refl)
same_flag false false one two = refl

module _ (kit : Kit) (state : State) where
  -- there is one first run at most
  pub IsFirstRun-unique : (run other : List Step) → IsFirstRun kit state run → IsFirstRun kit state other → run ≡ other
  IsFirstRun-unique = IsLeast-unique IsRunBefore (IsMaximalRun kit state) IsRunBefore-asymmetric

  -- there is one second run at most
  pub IsSecondRun-unique : (first run other : List Step) → IsSecondRun kit state first run
      → IsSecondRun kit state first other → run ≡ other
  IsSecondRun-unique first = IsLeast-unique IsRunBefore (Differs kit state first) IsRunBefore-asymmetric

  -- there is one dissent at most
  pub IsDissent-unique : (dissent other : Option Step) → IsDissent kit state dissent → IsDissent kit state other
      → dissent ≡ other
  IsDissent-unique None None one two = refl
  IsDissent-unique None (Some step) one two = absurd (one step two.holds)
  IsDissent-unique (Some step) None one two = absurd (two step one.holds)
  IsDissent-unique (Some step) (Some other) one two =
      let same = IsLeast-unique IsBefore (Dissents kit state) IsBefore-asymmetric step other one two in cc

  -- where the fix is unique nothing ends in another record
  pub IsFix-no_conflict : {certain : Bool} (first : List Step) (dissent : Option Step)
      → IsFix kit state first certain dissent → (run other : List Step) → ¬ IsConflict kit state run other
  IsFix-no_conflict first dissent fix run other conflict =
      let same = IsFirstRun-unique first run fix.is_first conflict.is_first in
      let apart = conflict.is_second.holds in
      apart.differs (rw (← same) (fix.unique other apart.maximal))

-- two answers are one
pub IsAnswer-unique : (kit : Kit) (state : State) (verdict other : Verdict)
    (first second other_first other_second : List Step) → IsAnswer kit state first second verdict
    → IsAnswer kit state other_first other_second other → (first ≡ other_first) × (second ≡ other_second)
    × (verdict ≡ other)
IsAnswer-unique kit state (Fix certain dissent) (Fix other_certain other_dissent) first second other_first other_second
    one two =
    let same = IsFirstRun-unique kit state first other_first one.0.is_first two.0.is_first in
    let flags : certain ≡ other_certain = same_flag certain other_certain one.0.is_certain (rw same two.0.is_certain) in
    let steps : dissent ≡ other_dissent =
    IsDissent-unique kit (end_of kit state first) dissent other_dissent one.0.is_dissent (rw same two.0.is_dissent)
    in
    (same, one.1 ∙ sym two.1, rw (flags, steps) refl)
IsAnswer-unique kit state (Fix certain dissent) Conflict first second other_first other_second one two =
    absurd (IsFix-no_conflict kit state first dissent one.0 other_first other_second two)
IsAnswer-unique kit state Conflict (Fix certain dissent) first second other_first other_second one two =
    absurd (IsFix-no_conflict kit state other_first dissent two.0 first second one)
IsAnswer-unique kit state Conflict Conflict first second other_first other_second one two =
    let same = IsFirstRun-unique kit state first other_first one.is_first two.is_first in
    (same, IsSecondRun-unique kit state first second other_second one.is_second (rw same two.is_second), refl)

-- Runs are short, and each goes on to a maximal one.
use Rattle.std.proofs.Common.{◌≡◌, ◌≤◌, ◌+◌, ℕ, zero, suc, List, [], ◌∷◌, ◌++◌, length, inl, inr, arith, refl, ◌∙◌}
use Rattle.fix_model.specs.declared.kit.Kit.{Kit}
use Rattle.fix_model.specs.declared.state.State.{State}
use Rattle.fix_model.specs.declared.state.Step.{Step}
use Rattle.fix_model.specs.Application.{after}
use Rattle.fix_model.specs.Run.{IsRun, end_of, IsMaximalRun}
use Rattle.fix_model.specs.States.{Fits, IsCovered, value_at, uncovered_count}
use Rattle.fix_model.specs.Valid.{IsValid}
use Rattle.fix_model.proofs.Counts.{uncovered_count-step}
use Rattle.fix_model.proofs.Covered.{IsCovered-after, value_at-after}
use Rattle.fix_model.proofs.Deciding.{fires_or_final}
use Rattle.fix_model.proofs.Runs.{IsRun-append, end_of-append}
use Rattle.fix_model.proofs.States.{Fits-after}

module _ (kit : Kit) (valid : IsValid kit) where
  -- each step of a run covers one attribute more
  pub uncovered_count-end_of : (state : State) (run : List Step) → Fits kit state → IsRun kit state run
      → uncovered_count (end_of kit state run) + length run ≡ uncovered_count state
  uncovered_count-end_of state [] fits whole = omega arith
  uncovered_count-end_of state (step ∷ run) fits whole = omega (
    arith,
    uncovered_count-step kit state step valid fits whole.0,
    uncovered_count-end_of (after kit state step)
        run (Fits-after kit state step fits whole.0) whole.1,
  )

  -- a run leaves a state of the kit
  pub Fits-end_of : (state : State) (run : List Step) → Fits kit state → IsRun kit state run
      → Fits kit (end_of kit state run)
  Fits-end_of state [] fits whole = fits
  Fits-end_of state (step ∷ run) fits whole = Fits-end_of (after kit state step) run
      (Fits-after kit state step fits whole.0) whole.1

  -- from each state some run is maximal
  go_on : (fuel : ℕ) (state : State) → uncovered_count state ≤ fuel → Fits kit state → (rest : List Step)
      × IsMaximalRun kit state rest
  go_on zero state enough fits = elim (fires_or_final kit state) [
    | inr final ↦ ([], (tt, final))
    | inl found ↦ absurd (omega (arith, uncovered_count-step kit state found.0 valid fits found.1))
  ]
  go_on (suc fuel) state enough fits = elim (fires_or_final kit state) [
    | inr final ↦ ([], (tt, final))
    | inl found ↦
        let (step, fires) = found in
        let (rest, (whole, final)) = go_on fuel (after kit state step)
        (omega (arith, uncovered_count-step kit state step valid fits fires)) (Fits-after kit state step fits fires) in
        (step ∷ rest, ((fires, whole), final))
  ]

  -- a run goes on to a maximal one
  pub IsMaximalRun-exists : (state : State) (run : List Step) → Fits kit state → IsRun kit state run
      → (rest : List Step) × IsMaximalRun kit state (run ++ rest)
  IsMaximalRun-exists state run fits whole =
      let (rest, (more, final)) = go_on (uncovered_count (end_of kit state run)) (end_of kit state run) (omega arith)
      (Fits-end_of state run fits whole) in
      (rest, (IsRun-append kit state run rest whole more, rw (end_of-append kit state run rest) final))

-- covered attributes stay covered along a run, with their values
pub IsCovered-end_of : (kit : Kit) (state : State) (run : List Step) (attribute : ℕ) → IsRun kit state run
    → IsCovered state attribute → IsCovered (end_of kit state run) attribute
    × (value_at kit (end_of kit state run) attribute ≡ value_at kit state attribute)
IsCovered-end_of kit state [] attribute whole covered = (covered, refl)
IsCovered-end_of kit state (step ∷ run) attribute whole covered =
    let later = IsCovered-end_of kit (after kit state step) run attribute whole.1
    (IsCovered-after kit state step whole.0 attribute covered) in
    (later.0, later.1 ∙ value_at-after kit state step whole.0 attribute covered)

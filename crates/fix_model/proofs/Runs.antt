-- The first run is made by taking the least step that fires, again and again.
use Rattle.std.proofs.Common.{◌≡◌, ◌⊎◌, inl, inr, List, [], ◌∷◌, ◌++◌, subst, sym, refl}
use Rattle.fix_model.specs.declared.kit.Kit.{Kit}
use Rattle.fix_model.specs.declared.state.State.{State}
use Rattle.fix_model.specs.declared.state.Step.{Step}
use Rattle.fix_model.specs.Application.{after}
use Rattle.fix_model.specs.FirstRun.{IsFirstRun, IsLeastStep}
use Rattle.fix_model.specs.Order.{IsRunBefore}
use Rattle.fix_model.specs.Run.{IsRun, end_of, IsFinal, IsMaximalRun}

-- the empty run is before every other maximal run, where no step fires
IsRunBefore-nil : (kit : Kit) (state : State) → IsFinal kit state → (other : List Step) → IsMaximalRun kit state other
    → ([] ≡ other) ⊎ IsRunBefore [] other
IsRunBefore-nil kit state final [] maximal = inl refl
IsRunBefore-nil kit state final (step ∷ rest) ((fires, whole), ended) = absurd (final step fires)

-- a run by the least step and the first run from there is before every other
IsRunBefore-cons : (kit : Kit) (state : State) (step : Step) (rest : List Step) → IsLeastStep kit state step
    → IsFirstRun kit (after kit state step) rest → (other : List Step) → IsMaximalRun kit state other
    → ((step ∷ rest) ≡ other) ⊎ IsRunBefore (step ∷ rest) other
IsRunBefore-cons kit state step rest least first [] maximal = absurd (maximal.1 step least.holds)
IsRunBefore-cons kit state step rest least first (next ∷ others) ((fires, whole), final) =
    elim (least.least next fires) [
      | inr before ↦ inr (inl before)
      | inl same ↦
          let there : IsMaximalRun kit (after kit state step) others = subst (λ (x : Step). IsMaximalRun kit
          (after kit state x) others) (sym same) (whole, final) in
          elim (first.least others there) [
            | inl equal ↦ inl (rw (same, equal) refl)
            | inr before ↦ inr (inr (same, before))
          ]
    ]

-- where nothing fires, the first run is empty
pub IsFirstRun-nil : (kit : Kit) (state : State) → IsFinal kit state → IsFirstRun kit state []
IsFirstRun-nil kit state final = record { holds = (tt, final); least = IsRunBefore-nil kit state final }

-- where the least step is followed by the first run from there, that is the first run
pub IsFirstRun-cons : (kit : Kit) (state : State) (step : Step) (rest : List Step) → IsLeastStep kit state step
    → IsFirstRun kit (after kit state step) rest → IsFirstRun kit state (step ∷ rest)
IsFirstRun-cons kit state step rest least first = record {
  holds = ((least.holds, first.holds.0), first.holds.1);
  least = IsRunBefore-cons kit state step rest least first;
}

-- a run goes on from the end of another
pub IsRun-append : (kit : Kit) (state : State) (run rest : List Step) → IsRun kit state run
    → IsRun kit (end_of kit state run) rest → IsRun kit state (run ++ rest)
IsRun-append kit state [] rest whole more = more
IsRun-append kit state (step ∷ run) rest whole more = (
  whole.0,
  IsRun-append kit (after kit state step) run rest
      whole.1 more,
)

-- the state after two runs is that after the second from the end of the first
pub end_of-append : (kit : Kit) (state : State) (run rest : List Step) → end_of kit state (run ++ rest)
    ≡ end_of kit (end_of kit state run) rest
end_of-append kit state [] rest = refl
end_of-append kit state (step ∷ run) rest = end_of-append kit (after kit state step) run rest

-- no step changes what was typed
pub typed-end_of : (kit : Kit) (state : State) (run : List Step) → (end_of kit state run).typed ≡ state.typed
typed-end_of kit state [] = refl
typed-end_of kit state (step ∷ run) = typed-end_of kit (after kit state step) run

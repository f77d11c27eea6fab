-- The first run, step by step.
use Rattle.std.proofs.Common.{◌≡◌, ◌∙◌, List, [], ◌∷◌, ◌++◌, length, refl, sym, ap, append-nil}
use Rattle.std.proofs.lemmas.List.{append_assoc}
use Rattle.fix_model.specs.declared.kit.Kit.{Kit}
use Rattle.fix_model.specs.declared.state.State.{State}
use Rattle.fix_model.specs.declared.state.Step.{Step}
use Rattle.fix_model.specs.Application.{after}
use Rattle.fix_model.specs.FirstRun.{IsFirstRun, IsLeastStep}
use Rattle.fix_model.specs.Run.{IsFinal, end_of}
use Rattle.fix_model.specs.States.{Fits}
use Rattle.fix_model.specs.Valid.{IsValid}
use Rattle.fix_model.proofs.Lengths.{Fits-end_of}
use Rattle.fix_model.proofs.Runs.{IsFirstRun-nil, IsFirstRun-cons, end_of-append, typed-end_of}
use Rattle.fix_engine.specs.declared.runs.Runs.{Runs}
use Rattle.fix_engine.specs.Runs.{IsBegun, IsCompleted}

-- steps were made after those that are there: they lead to the new state, and with its first run they are the first
-- run of the old one
pub record IsBeginning (kit : Kit) (old new : State) (before run : List Step) : Type 0 where
  pub rest : List Step
  pub appended : run ≡ before ++ rest
  pub ends : new ≡ end_of kit old rest
  pub leads_on : (more : List Step) → IsFirstRun kit new more → IsFirstRun kit old (rest ++ more)

-- no step is a beginning
pub IsBeginning-start : (kit : Kit) (state : State) (run : List Step) → IsBeginning kit state state run run
IsBeginning-start kit state run = record {
  rest = [];
  appended = sym (append-nil run);
  ends = refl;
  leads_on = λ more first. first;
}

-- the least step goes on with a beginning
pub IsBeginning-step : (kit : Kit) (old new later : State) (before run longer : List Step) (step : Step)
    → IsBeginning kit old new before run → IsLeastStep kit new step → later ≡ after kit new step
    → longer ≡ run ++ step ∷ [] → IsBeginning kit old later before longer
IsBeginning-step kit old new later before run longer step so_far least made pushed = record {
  rest = so_far.rest ++ step ∷ [];
  appended = pushed ∙ ap (λ all. all ++ step ∷ []) so_far.appended ∙ append_assoc before so_far.rest (step ∷ []);
  ends = made ∙ ap (λ s. after kit s step) so_far.ends ∙ sym (end_of-append kit old so_far.rest (step ∷ []));
  leads_on = λ more first.
      rw append_assoc (so_far.leads_on (step ∷ more) (IsFirstRun-cons kit new step more least (rw made at first)));
}

-- a beginning at whose end nothing fires is the first run
pub IsCompleted-final : (kit : Kit) (old new : State) (before run : List Step)
    → IsBeginning kit old new before run → IsFinal kit new → IsCompleted kit old new before run
IsCompleted-final kit old new before run so_far final = record {
  rest = so_far.rest;
  appended = so_far.appended;
  first = rw (sym (append-nil so_far.rest)) (so_far.leads_on [] (IsFirstRun-nil kit new final));
  ends = so_far.ends;
}

-- the typed texts stay as they were
pub typed-completed : (kit : Kit) (old new : State) (before run : List Step) → IsCompleted kit old new before run
    → new.typed ≡ old.typed
typed-completed kit old new before run completed =
    ap (λ (s : State). s.typed) completed.ends ∙ typed-end_of kit old completed.rest

-- the first run from a state whose cells are saved
pub IsBegun-completed : (kit : Kit) (old new : State) (runs : Runs) (before : List Step) → IsValid kit → Fits kit old
    → IsCompleted kit old new before runs.first.items → before ≡ [] → runs.second.items ≡ []
    → runs.saved.items ≡ old.cells → IsBegun kit old new runs
IsBegun-completed kit old new runs before valid fits completed empty second saved =
    let run_is : runs.first.items ≡ completed.rest = rw empty at completed.appended in
    let ends : new ≡ end_of kit old runs.first.items = rw run_is completed.ends in
    let typed : new.typed ≡ old.typed = ap (λ (s : State). s.typed) ends ∙ typed-end_of kit old runs.first.items in
    let first : IsFirstRun kit old runs.first.items = rw run_is completed.first in
    let fits_there : Fits kit new = rw ends (Fits-end_of kit valid old runs.first.items fits first.holds.0) in
    record {
      valid = valid;
      first = first;
      second = second;
      ends = ends;
      fits = fits_there;
      even = ap length saved ∙ fits.cells ∙ sym fits_there.cells;
      saved = rw (typed, saved) refl;
    }

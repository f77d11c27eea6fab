-- How the second run begins: it keeps to the end of the first while a departure is left, and then departs.
use Rattle.std.specs.Prelude.{◌≡◌, ◌⊎◌, ℕ, ◌<◌, Bool, true, false, List, ◌∷◌, ◌++◌}
use Rattle.fix_model.specs.declared.kit.Kit.{Kit}
use Rattle.fix_model.specs.declared.state.State.{State}
use Rattle.fix_model.specs.declared.state.Step.{Step}
use Rattle.fix_model.specs.Application.{Fires, after}
use Rattle.fix_model.specs.FirstRun.{IsFirstRun}
use Rattle.fix_model.specs.Least.{IsLeast}
use Rattle.fix_model.specs.Order.{IsBefore, IsRunBefore}
use Rattle.fix_model.specs.Run.{IsMaximalRun, end_of}
use Rattle.fix_engine.specs.declared.leads.Lead.{Lead}
use Rattle.fix_engine.specs.declared.second_run.Turn.{Turn}
use Rattle.fix_engine.specs.Departures.{AreDepartures, CanDepart, EndsElsewhere, IsLedTo, Keeps, Supports}

-- the run is maximal, and ends in another record than the end
pub record IsElsewhere (kit : Kit) (end state : State) (run : List Step) : Type 0 where
  pub maximal : IsMaximalRun kit state run
  pub elsewhere : EndsElsewhere kit end state run

-- the run is the least of those that end elsewhere
abbrev pub IsLeastElsewhere : Kit → State → State → List Step → Type 0
IsLeastElsewhere kit end state = IsLeast IsRunBefore (IsElsewhere kit end state)

-- some attribute can be departed at
abbrev pub CanDepartSomewhere : Kit → State → State → Type 0
CanDepartSomewhere kit end state = (attribute : ℕ) × CanDepart kit end state attribute

-- no maximal run that ends elsewhere begins with a step of the rule
abbrev pub IsPassed : Kit → State → State → ℕ → Type 0
IsPassed kit end state place = (step : Step) (rest : List Step) → step.rule ≡ place
    → IsMaximalRun kit state (step ∷ rest) → ¬ EndsElsewhere kit end state (step ∷ rest)

-- so it is for each rule before this one
abbrev pub ArePassedBefore : Kit → State → State → ℕ → Type 0
ArePassedBefore kit end state from = (place : ℕ) → place < from → IsPassed kit end state place

-- the step of the turn fires; it departs, or it keeps to the end, by a rule that supports it, and leaves something to
-- depart at
pub record IsTurn (kit : Kit) (end state : State) (turn : Turn) : Type 0 where
  pub fires : Fires kit state turn.step
  pub leaves : turn.departs ≡ true → ¬ Keeps kit end turn.step
  pub stays : turn.departs ≡ false → Supports kit end turn.step.rule × Keeps kit end turn.step
      × CanDepartSomewhere kit end (after kit state turn.step)

-- of the maximal runs that end elsewhere, those that begin with a step of the rule begin with this step or a later one
abbrev pub IsLeastOf : Kit → State → State → ℕ → Step → Type 0
IsLeastOf kit end state place first = (step : Step) (rest : List Step) → step.rule ≡ place
    → IsMaximalRun kit state (step ∷ rest) → EndsElsewhere kit end state (step ∷ rest)
    → (first ≡ step) ⊎ IsBefore first step

-- all of them begin with this step or a later one
abbrev pub IsLeastOfAll : Kit → State → State → Step → Type 0
IsLeastOfAll kit end state first = (step : Step) (rest : List Step) → IsMaximalRun kit state (step ∷ rest)
    → EndsElsewhere kit end state (step ∷ rest) → (first ≡ step) ⊎ IsBefore first step

-- the state leads to the end, by these leads; at the flagged attributes, and at one at least, a run can depart from it
pub record IsLeftFrom (kit : Kit) (state end : State) (leads : List Lead) (flags : List Bool) : Type 0 where
  pub led : IsLedTo kit state end leads
  pub departures : AreDepartures kit end state flags
  pub somewhere : CanDepartSomewhere kit end state

-- the run goes on to the new state; with the first run from there it is the least that ends elsewhere
pub record BeginsElsewhere (kit : Kit) (end old new : State) (before run : List Step) : Type 0 where
  pub rest : List Step
  pub appended : run ≡ before ++ rest
  pub ends : new ≡ end_of kit old rest
  pub least : (more : List Step) → IsFirstRun kit new more → IsLeastElsewhere kit end old (rest ++ more)

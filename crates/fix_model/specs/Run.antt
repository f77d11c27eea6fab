-- Sequences of applications.
use Rattle.std.specs.Prelude.{List, [], ◌∷◌, ⊤}
use Rattle.fix_model.specs.declared.kit.Kit.{Kit}
use Rattle.fix_model.specs.declared.state.State.{State}
use Rattle.fix_model.specs.declared.state.Step.{Step}
use Rattle.fix_model.specs.Application.{Fires, after}

-- each step fires after those before it
abbrev pub IsRun : Kit → State → List Step → Type 0
IsRun kit state [] = ⊤
IsRun kit state (step ∷ rest) = Fires kit state step × IsRun kit (after kit state step) rest

-- the state after all steps
abbrev pub end_of : Kit → State → List Step → State
end_of kit state [] = state
end_of kit state (step ∷ rest) = end_of kit (after kit state step) rest

-- no step fires
abbrev pub IsFinal : Kit → State → Type 0
IsFinal kit state = (step : Step) → ¬ Fires kit state step

-- a run at whose end no step fires
abbrev pub IsMaximalRun : Kit → State → List Step → Type 0
IsMaximalRun kit state run = IsRun kit state run × IsFinal kit (end_of kit state run)

-- What can be done next at a state.
use Rattle.std.specs.Prelude.{◌≡◌, ℕ, Option, MatchOption}
use Rattle.fix_model.specs.declared.kit.Kit.{Kit}
use Rattle.fix_model.specs.declared.state.State.{State}
use Rattle.fix_model.specs.declared.state.Step.{Step}
use Rattle.fix_model.specs.Application.{Fires}
use Rattle.fix_model.specs.FirstRun.{IsLeastStep}
use Rattle.fix_model.specs.Run.{IsFinal}

-- no step of the rule fires
abbrev pub IsIdle : Kit → State → ℕ → Type 0
IsIdle kit state rule = (step : Step) → step.rule ≡ rule → ¬ Fires kit state step

-- the least step that fires, or none where nothing fires
abbrev pub IsNextStep : Kit → State → Option Step → Type 0
IsNextStep kit state next = MatchOption next (IsFinal kit state) (IsLeastStep kit state)

-- The first run: the least of the maximal ones.
use Rattle.std.specs.Prelude.{List}
use Rattle.fix_model.specs.declared.kit.Kit.{Kit}
use Rattle.fix_model.specs.declared.state.State.{State}
use Rattle.fix_model.specs.declared.state.Step.{Step}
use Rattle.fix_model.specs.Application.{Fires}
use Rattle.fix_model.specs.Least.{IsLeast}
use Rattle.fix_model.specs.Order.{IsBefore, IsRunBefore}
use Rattle.fix_model.specs.Run.{IsMaximalRun}

-- the run is the least of the maximal ones
abbrev pub IsFirstRun : Kit → State → List Step → Type 0
IsFirstRun kit state = IsLeast IsRunBefore (IsMaximalRun kit state)

-- the step is the least of those that fire
abbrev pub IsLeastStep : Kit → State → Step → Type 0
IsLeastStep kit state = IsLeast IsBefore (Fires kit state)

-- Why an attribute is fixed: the shortest part of a run that fixes it.
use Rattle.std.specs.Prelude.{◌≡◌, ◌⊎◌, ℕ, ◌<◌, List, length, IsSome}
use Rattle.fix_model.specs.declared.kit.Kit.{Kit}
use Rattle.fix_model.specs.declared.state.State.{State}
use Rattle.fix_model.specs.declared.state.Step.{Step}
use Rattle.fix_model.specs.Run.{IsRun, end_of}
use Rattle.fix_model.specs.States.{cell_at, fixed_by}
use Rattle.fix_explain.specs.SubLists.{IsSubList}

-- a step gave the attribute its text
abbrev pub IsFixed : State → ℕ → Type 0
IsFixed state attribute = IsSome (fixed_by (cell_at state attribute))

-- the steps are a run from the state, and fix the attribute
pub record Fixes (kit : Kit) (state : State) (attribute : ℕ) (steps : List Step) : Type 0 where
  pub run : IsRun kit state steps
  pub fixed : IsFixed (end_of kit state steps) attribute

-- the reason: a sub-list of the run that is a run itself and fixes the attribute; every other one is longer
pub record IsReason (kit : Kit) (state : State) (run : List Step) (attribute : ℕ) (reason : List Step) : Type 0 where
  pub part : IsSubList reason run
  pub fixes : Fixes kit state attribute reason
  pub shortest : (other : List Step) → IsSubList other run → Fixes kit state attribute other
      → (reason ≡ other) ⊎ (length reason < length other)

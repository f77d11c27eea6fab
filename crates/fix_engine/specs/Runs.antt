-- The runs that a call leaves: their room, and what is added to them.
use Rattle.std.specs.Prelude.{◌≡◌, ℕ, ◌≤◌, List, [], ◌++◌, length, vec_capacity}
use Rattle.fix_model.specs.declared.kit.Kit.{Kit}
use Rattle.fix_model.specs.declared.state.State.{State}
use Rattle.fix_model.specs.declared.state.Step.{Step}
use Rattle.fix_model.specs.FirstRun.{IsFirstRun}
use Rattle.fix_model.specs.Run.{end_of}
use Rattle.fix_model.specs.States.{Fits}
use Rattle.fix_model.specs.Valid.{IsValid}
use Rattle.fix_engine.specs.declared.runs.Runs.{Runs}

-- there is room for runs over so many attributes
pub record HasRunRoom (attributes : ℕ) (runs : Runs) : Type 0 where
  pub first : attributes ≤ vec_capacity runs.first
  pub second : attributes ≤ vec_capacity runs.second
  pub saved : attributes ≤ vec_capacity runs.saved

-- the room is at least as great as before
pub record KeepsRunRoom (old new : Runs) : Type 0 where
  pub first : vec_capacity old.first ≤ vec_capacity new.first
  pub second : vec_capacity old.second ≤ vec_capacity new.second
  pub saved : vec_capacity old.saved ≤ vec_capacity new.saved

-- the run goes on by the first run from the old state, which ends at the new one
pub record IsCompleted (kit : Kit) (old new : State) (before run : List Step) : Type 0 where
  pub rest : List Step
  pub appended : run ≡ before ++ rest
  pub first : IsFirstRun kit old rest
  pub ends : new ≡ end_of kit old rest

-- the first run was made from the old state, it ended at the new one, and the saved cells give the old state back
pub record IsBegun (kit : Kit) (old new : State) (runs : Runs) : Type 0 where
  pub valid : IsValid kit
  pub first : IsFirstRun kit old runs.first.items
  pub second : runs.second.items ≡ []
  pub ends : new ≡ end_of kit old runs.first.items
  pub fits : Fits kit new
  pub even : length runs.saved.items ≡ length new.cells
  pub saved : record new { cells = runs.saved.items } ≡ old

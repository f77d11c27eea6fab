-- What is decided of a row.
use Rattle.std.specs.Prelude.{◌≡◌, ℕ, List}
use Rattle.fix_model.specs.declared.kit.Kit.{Kit}
use Rattle.fix_model.specs.declared.state.State.{State}
use Rattle.fix_model.specs.declared.state.Step.{Step}
use Rattle.fix_model.specs.Run.{end_of}
use Rattle.fix_engine.specs.declared.verdict.Verdict.{Verdict}
use Rattle.fix_engine.specs.Verdicts.{IsAnswer}
use Rattle.sheet_clean.specs.declared.setting.Setting.{Setting}
use Rattle.sheet_clean.specs.Row.{row_state}

-- the verdict, and the ends of the first and of the second run; at a fix the second run is empty, so `second` is the
-- state as it was
pub record Decision : Type 0 where
  pub verdict : Verdict
  pub first : State
  pub second : State

-- this is decided of a state
pub record IsDecision (kit : Kit) (state : State) (decision : Decision) : Type 0 where
  pub first_run : List Step
  pub second_run : List Step
  pub answer : IsAnswer kit state first_run second_run decision.verdict
  pub first : decision.first ≡ end_of kit state first_run
  pub second : decision.second ≡ end_of kit state second_run

-- a row: its cells as they came, and what is decided of it
pub record Row : Type 0 where
  pub cells : List (List ℕ)
  pub decision : Decision

-- this is decided of a row under this header
abbrev pub IsDecided : Kit → Setting → List (List ℕ) → Row → Type 0
IsDecided kit setting header row = IsDecision kit (row_state setting header row.cells) row.decision

-- Whether the order of applications matters: a unique fix, or two runs that disagree.
use Rattle.std.specs.Prelude.{◌≡◌, ◌≢◌, ◌↔◌, ℕ, ◌<◌, Bool, IsTrue, List, length, Option, MatchOption}
use Rattle.fix_model.specs.declared.kit.Kit.{Kit}
use Rattle.fix_model.specs.declared.state.State.{State}
use Rattle.fix_model.specs.declared.state.Step.{Step}
use Rattle.fix_model.specs.Application.{IsEnabled, RowAgrees}
use Rattle.fix_model.specs.FirstRun.{IsFirstRun}
use Rattle.fix_model.specs.Least.{IsLeast}
use Rattle.fix_model.specs.Order.{IsBefore, IsRunBefore}
use Rattle.fix_model.specs.Rules.{rule_at, step_text}
use Rattle.fix_model.specs.Run.{IsMaximalRun, end_of}
use Rattle.fix_model.specs.States.{IsCovered, value_at, record_of}

-- the two runs end in one record
abbrev pub EndAlike : Kit → State → List Step → List Step → Type 0
EndAlike kit state run other = record_of kit (end_of kit state run) ≡ record_of kit (end_of kit state other)

-- the run is maximal, and ends in another record than the first
pub record Differs (kit : Kit) (state : State) (first run : List Step) : Type 0 where
  pub maximal : IsMaximalRun kit state run
  pub differs : ¬ EndAlike kit state first run

-- the second run: the least of those that differ from the first
abbrev pub IsSecondRun : Kit → State → List Step → List Step → Type 0
IsSecondRun kit state first = IsLeast IsRunBefore (Differs kit state first)

-- every attribute is covered
abbrev pub AreAllCovered : Kit → State → Type 0
AreAllCovered kit state = (attribute : ℕ) → attribute < kit.width → IsCovered state attribute

-- the step would give its head, which is covered, another value: its rule is enabled and its row agrees
pub record Dissents (kit : Kit) (state : State) (step : Step) : Type 0 where
  pub rule_within : step.rule < length kit.rules
  pub enabled : IsEnabled kit state (rule_at kit step.rule)
  pub covered : IsCovered state (rule_at kit step.rule).head
  pub agrees : RowAgrees kit (value_at kit state) (rule_at kit step.rule) step.row
  pub differs : step_text kit step ≢ value_at kit state (rule_at kit step.rule).head

-- the step is the least of those that dissent
abbrev pub IsLeastDissent : Kit → State → Step → Type 0
IsLeastDissent kit state = IsLeast IsBefore (Dissents kit state)

-- the least step that dissents, or none where no step does
abbrev pub IsDissent : Kit → State → Option Step → Type 0
IsDissent kit state dissent = MatchOption dissent ((step : Step) → ¬ Dissents kit state step) (IsLeastDissent kit state)

-- a unique fix: every maximal run ends in the record in which the first one ends. It is certain exactly where that end
-- covers every attribute
pub record IsFix (kit : Kit) (state : State) (first : List Step) (certain : Bool) (dissent : Option Step) : Type 0 where
  pub is_first : IsFirstRun kit state first
  pub unique : (other : List Step) → IsMaximalRun kit state other → EndAlike kit state first other
  pub is_certain : IsTrue certain ↔ AreAllCovered kit (end_of kit state first)
  pub is_dissent : IsDissent kit (end_of kit state first) dissent

-- a conflict: the first run, and the second, which ends in another record
pub record IsConflict (kit : Kit) (state : State) (first second : List Step) : Type 0 where
  pub is_first : IsFirstRun kit state first
  pub is_second : IsSecondRun kit state first second

-- there is a unique fix, certain or not
abbrev pub HasFix : Kit → State → Bool → Type 0
HasFix kit state certain = (first : List Step) × (dissent : Option Step) × IsFix kit state first certain dissent

-- some maximal run ends in another record than this run
abbrev pub SomeRunDiffers : Kit → State → List Step → Type 0
SomeRunDiffers kit state run = (other : List Step) × Differs kit state run other

-- there is a conflict: some maximal run ends in another record than the first
abbrev pub HasConflict : Kit → State → Type 0
HasConflict kit state = (first : List Step) × IsFirstRun kit state first × SomeRunDiffers kit state first

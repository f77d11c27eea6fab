-- What a verdict says.
use Rattle.std.specs.Prelude.{◌≡◌, List, []}
use Rattle.fix_model.specs.declared.kit.Kit.{Kit}
use Rattle.fix_model.specs.declared.state.State.{State}
use Rattle.fix_model.specs.declared.state.Step.{Step}
use Rattle.fix_model.specs.FirstRun.{IsFirstRun}
use Rattle.fix_model.specs.Fix.{IsConflict, IsFix, SomeRunDiffers}
use Rattle.fix_engine.specs.declared.verdict.Verdict.{Verdict}
use Rattle.fix_engine.specs.declared.verdict.Verdict.TheVariants.{Fix, Conflict}

-- the judgement of the state, with the first run alone: a unique fix, or some maximal run that ends in another record
abbrev pub IsJudgement : Kit → State → List Step → Verdict → Type 0
IsJudgement kit state first (Fix certain dissent) = IsFix kit state first certain dissent
IsJudgement kit state first Conflict = IsFirstRun kit state first × SomeRunDiffers kit state first

-- the answer for the state: a unique fix, with the first run alone, or a conflict, with the first run and the second
abbrev pub IsAnswer : Kit → State → List Step → List Step → Verdict → Type 0
IsAnswer kit state first second (Fix certain dissent) = IsFix kit state first certain dissent × (second ≡ [])
IsAnswer kit state first second Conflict = IsConflict kit state first second

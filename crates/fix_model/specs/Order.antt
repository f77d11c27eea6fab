-- The order of steps and of runs.
use Rattle.std.specs.Prelude.{◌≡◌, ◌<◌, ◌⊎◌, List, [], ◌∷◌, ⊤}
use Rattle.fix_model.specs.declared.state.Step.{Step}

-- by rule, then by row
abbrev pub IsBefore : Step → Step → Type 0
IsBefore step other = (step.rule < other.rule) ⊎ ((step.rule ≡ other.rule) × (step.row < other.row))

-- lists of steps in lexicographic order
abbrev pub IsRunBefore : List Step → List Step → Type 0
IsRunBefore run [] = ⊥
IsRunBefore [] (other ∷ others) = ⊤
IsRunBefore (step ∷ rest) (other ∷ others) = IsBefore step other ⊎ ((step ≡ other) × IsRunBefore rest others)

-- Lists of steps with some steps left out.
use Rattle.std.specs.Prelude.{◌≡◌, ◌⊎◌, List, [], ◌∷◌, ⊤}
use Rattle.fix_model.specs.declared.state.Step.{Step}

-- the steps of the first list stand in the second, in the same order
abbrev pub IsSubList : List Step → List Step → Type 0
IsSubList [] whole = ⊤
IsSubList (step ∷ rest) [] = ⊥
IsSubList (step ∷ rest) (first ∷ others) =
    ((step ≡ first) × IsSubList rest others) ⊎ IsSubList (step ∷ rest) others

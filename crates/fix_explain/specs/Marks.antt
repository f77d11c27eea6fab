-- What is marked backwards from the step that fixes an attribute.
use Rattle.std.specs.Prelude.{◌≡◌, ◌⊎◌, ℕ, List}
use Rattle.fix_model.specs.declared.kit.Kit.{Kit}
use Rattle.fix_model.specs.declared.state.Step.{Step}
use Rattle.fix_explain.specs.Uses.{IsReadBy}

-- the attribute is wanted: it is the one that is to be fixed, or a marked step reads it
abbrev pub IsWanted : Kit → ℕ → List Step → ℕ → Type 0
IsWanted kit target marked attribute = (attribute ≡ target) ⊎ IsReadBy kit marked attribute

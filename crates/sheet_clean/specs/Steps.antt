-- A step that may not be there, where a text comes from.
use Rattle.std.specs.Prelude.{⊤, ℕ, ◌+◌, List, [], Option, Some, None, decimal}
use Rattle.fix_model.specs.declared.kit.Kit.{Kit}
use Rattle.fix_model.specs.declared.state.Step.{Step}
use Rattle.fix_model.specs.Rules.{IsStepOf}

-- it is one of the kit, if it is there
abbrev pub IsOriginOf : Kit → Option Step → Type 0
IsOriginOf kit None = ⊤
IsOriginOf kit (Some step) = IsStepOf kit step

-- its row, counted from 1, or a blank
abbrev pub origin_digits : Option Step → List ℕ
origin_digits None = []
origin_digits (Some step) = decimal (step.row + 1)

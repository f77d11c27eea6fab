-- What a conflict is about: the attributes whose texts differ at the ends of the two runs.
use Rattle.std.specs.Prelude.{ℕ, Bool, not, List, [], filter, map}
use Rattle.std.specs.List.{range_with_len}
use Rattle.std.specs.Str.{bytes_eq}
use Rattle.fix_model.specs.declared.kit.Kit.{Kit}
use Rattle.fix_model.specs.declared.state.State.{State}
use Rattle.fix_model.specs.declared.state.Step.{Step}
use Rattle.fix_model.specs.Run.{end_of}
use Rattle.fix_model.specs.States.{cell_at, fixed_by, value_at}
use Rattle.fix_engine.specs.declared.verdict.Verdict.{Verdict}
use Rattle.fix_engine.specs.declared.verdict.Verdict.TheVariants.{Fix, Conflict}
use Rattle.fix_choices.specs.declared.choice.Choice.{Choice}
use Rattle.fix_choices.specs.declared.choice.Ending.{Ending}

-- whether the texts of an attribute differ at two ends, byte by byte
abbrev pub differs : Kit → State → State → ℕ → Bool
differs kit first second attribute = not (bytes_eq (value_at kit first attribute) (value_at kit second attribute))

-- the text of an attribute at an end, and the step that fixed it there, or none
abbrev pub ending_at : Kit → State → ℕ → Ending
ending_at kit end attribute = record { text = value_at kit end attribute; step = fixed_by (cell_at end attribute) }

-- the attribute with what it has at the two ends
abbrev pub choice_at : Kit → State → State → ℕ → Choice
choice_at kit first second attribute = record {
  attribute = attribute;
  first = ending_at kit first attribute;
  second = ending_at kit second attribute;
}

-- the choices between two ends: the attributes whose texts differ, in their order
abbrev pub choices_between : Kit → State → State → List Choice
choices_between kit first second =
    map (choice_at kit first second) (filter (differs kit first second) (range_with_len 0 kit.width))

-- the choices of an answer with these two runs: at a conflict those between their ends, at a fix none
abbrev pub choices_of : Kit → State → List Step → List Step → Verdict → List Choice
choices_of kit state first second (Fix certain dissent) = []
choices_of kit state first second Conflict = choices_between kit (end_of kit state first) (end_of kit state second)

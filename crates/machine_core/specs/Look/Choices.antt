-- Choices: what a session's conflict, or the dissent from its fix, is about.
use Rattle.std.specs.Prelude.{ℕ, ◌+◌, map, option_map}
use Rattle.desk_words.specs.declared.choices.Choices.{Choices}
use Rattle.desk_words.specs.declared.choices.ShownChoice.{ShownChoice}
use Rattle.desk_words.specs.declared.choices.ShownDissent.{ShownDissent}
use Rattle.desk_words.specs.declared.choices.ShownEnd.{ShownEnd}
use Rattle.desk_words.specs.declared.choices.ShownStep.{ShownStep}
use Rattle.desk_words.specs.declared.rows.session.SessionRow.{SessionRow}
use Rattle.desk_words.specs.Tables.{Published}
use Rattle.desk_valid.specs.declared.bound.Bound.{Bound}
use Rattle.fix_choices.specs.declared.choice.Choice.{Choice}
use Rattle.fix_choices.specs.declared.choice.Ending.{Ending}
use Rattle.fix_choices.specs.declared.dissents.Dissent.{Dissent}
use Rattle.fix_choices.specs.Choices.{choices_of}
use Rattle.fix_choices.specs.Dissents.{dissent_of}
use Rattle.fix_model.specs.declared.state.Step.{Step}
use Rattle.fix_model.specs.Rules.{rule_at}
use Rattle.machine_core.specs.Answers.{bound_for, state_of}
use Rattle.machine_core.specs.Checked.{Answer, Checked, ◌>>=◌, answer_for, done}
use Rattle.machine_core.specs.Own.{Own}
use Rattle.machine_core.specs.Tests.{session_of}
use Rattle.machine_core.specs.Views.{name_at}

-- a step by the names of its rule and of that rule's master, with the row counted from 1
abbrev pub shown_step : Bound → Step → ShownStep
shown_step bound step = record {
  rule = name_at bound.names.rules step.rule;
  master = name_at bound.names.masters (rule_at bound.kit step.rule).master;
  row = step.row + 1;
}

-- what an attribute has at an end
abbrev pub shown_end : Bound → Ending → ShownEnd
shown_end bound ending = record { text = ending.text; step = option_map (shown_step bound) ending.step }

-- a choice by the names of its attribute and its steps
abbrev pub shown_choice : Bound → Choice → ShownChoice
shown_choice bound choice = record {
  name = name_at bound.names.attributes choice.attribute;
  first = shown_end bound choice.first;
  second = shown_end bound choice.second;
}

-- a dissent so named
abbrev pub shown_dissent : Bound → Dissent → ShownDissent
shown_dissent bound dissent = record {
  name = name_at bound.names.attributes dissent.attribute;
  text = dissent.text;
  step = shown_step bound dissent.step;
  other = dissent.other;
}

-- what the answer for a session of this number is about
abbrev pub choices_with : ℕ → SessionRow → Bound → Answer → Choices
choices_with number session bound answer =
    let state = state_of session in
    record {
      session = number;
      choices = map (shown_choice bound) (choices_of bound.kit state answer.first answer.second answer.verdict);
      dissent = option_map (shown_dissent bound) (dissent_of bound.kit state answer.first answer.verdict);
    }

-- the same over its edition
abbrev pub choices_on : ℕ → Bound → SessionRow → Checked Choices
choices_on number bound session = do
  answer ← answer_for bound.kit (state_of session)
  done (choices_with number session bound answer)

-- the session of this number, active or closed, and what it is about
abbrev pub choices_at : Published → Own → ℕ → Checked Choices
choices_at published own number = do
  session ← session_of own.sessions number
  bound ← bound_for published session
  choices_on number bound session

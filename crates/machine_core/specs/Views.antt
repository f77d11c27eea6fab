-- A session as it is shown.
use Rattle.std.specs.Prelude.{ℕ, ◌+◌, List, [], map, slice_index_or, option_map}
use Rattle.std.specs.List.{range_with_len}
use Rattle.desk_words.specs.declared.rows.edition.EditionRow.{EditionRow}
use Rattle.desk_words.specs.declared.rows.session.SessionRow.{SessionRow}
use Rattle.desk_words.specs.declared.view.Outcome.{Outcome}
use Rattle.desk_words.specs.declared.view.Outcome.TheVariants as outcome
use Rattle.desk_words.specs.declared.view.Shown.{Shown}
use Rattle.desk_words.specs.declared.view.Shown.TheVariants as shown
use Rattle.desk_words.specs.declared.view.View.{View}
use Rattle.desk_words.specs.declared.view.ViewCell.{ViewCell}
use Rattle.desk_words.specs.Tables.{Published}
use Rattle.desk_valid.specs.declared.bound.Bound.{Bound}
use Rattle.fix_engine.specs.declared.verdict.Verdict.{Verdict}
use Rattle.fix_engine.specs.declared.verdict.Verdict.TheVariants.{Fix, Conflict}
use Rattle.fix_model.specs.declared.state.Cell.{Cell}
use Rattle.fix_model.specs.declared.state.Cell.TheVariants.{Uncovered, Confirmed, Fixed}
use Rattle.fix_model.specs.declared.state.State.{State}
use Rattle.fix_model.specs.declared.state.Step.{Step}
use Rattle.fix_model.specs.Rules.{rule_at}
use Rattle.fix_model.specs.States.{cell_at, value_at}
use Rattle.machine_core.specs.Answers.{bound_for, shown_state, state_of}
use Rattle.machine_core.specs.Checked.{Answer, Checked, ◌>>=◌, answer_for, done}

-- the name at a place
abbrev pub name_at : List (List ℕ) → ℕ → List ℕ
name_at names place = slice_index_or names place []

-- a step by the name of its rule, with the row counted from 1
abbrev pub named_step : Bound → Step → List ℕ × ℕ
named_step bound step = (name_at bound.names.rules step.rule, step.row + 1)

-- how an attribute came to its value
abbrev pub shown_cell : Bound → Cell → Shown
shown_cell bound Uncovered = shown.Uncovered
shown_cell bound Confirmed = shown.Confirmed
shown_cell bound (Fixed step) = shown.Fixed (name_at bound.names.rules step.rule)
    (name_at bound.names.masters (rule_at bound.kit step.rule).master) (step.row + 1)

-- an attribute with its value
abbrev pub view_cell : Bound → State → ℕ → ViewCell
view_cell bound state attribute = record {
  name = name_at bound.names.attributes attribute;
  value = value_at bound.kit state attribute;
  shown = shown_cell bound (cell_at state attribute);
}

-- what the rules make of it
abbrev pub outcome_of : Bound → Answer → Verdict → Outcome
outcome_of bound answer (Fix certain dissent) = outcome.Fix certain (option_map (named_step bound) dissent)
outcome_of bound answer Conflict = outcome.Conflict (map (named_step bound) answer.second)

-- the edition at a place; past the last, one of no name
abbrev pub edition_at : Published → ℕ → EditionRow
edition_at published place =
    slice_index_or published.editions place (record { name = []; version = 0; rulebook = 0; masters = []; folded = [] })

-- the session of this number, with this answer
abbrev pub view_with : Published → ℕ → SessionRow → Bound → Answer → View
view_with published number session bound answer = record {
  session = number;
  edition = (edition_at published session.edition).name;
  version = (edition_at published session.edition).version;
  stage = session.stage;
  cells = map (view_cell bound (shown_state bound (state_of session) answer answer.verdict))
      (range_with_len 0 bound.kit.width);
  first = map (named_step bound) answer.first;
  outcome = outcome_of bound answer answer.verdict;
}

-- the session of this number as it is shown
abbrev pub view_of : Published → ℕ → SessionRow → Checked View
view_of published number session = do
  bound ← bound_for published session
  answer ← answer_for bound.kit (state_of session)
  done (view_with published number session bound answer)

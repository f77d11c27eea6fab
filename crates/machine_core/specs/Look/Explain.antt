-- Explain: why an attribute is fixed, by the first run of a fix.
use Rattle.std.specs.Prelude.{ℕ, List, is_some, map}
use Rattle.desk_words.specs.declared.refusal.Refusal.TheVariants.{NotFixed}
use Rattle.desk_words.specs.declared.reply.Explained.{Explained}
use Rattle.desk_words.specs.declared.rows.session.SessionRow.{SessionRow}
use Rattle.desk_words.specs.Tables.{Published}
use Rattle.desk_valid.specs.declared.bound.Bound.{Bound}
use Rattle.fix_model.specs.declared.state.State.{State}
use Rattle.fix_model.specs.declared.state.Step.{Step}
use Rattle.fix_model.specs.Run.{end_of}
use Rattle.fix_model.specs.States.{cell_at, fixed_by}
use Rattle.machine_core.specs.Answers.{bound_for, state_of}
use Rattle.machine_core.specs.Checked.{Checked, Explanation, ◌>>=◌, ◌>>◌, answer_for, done, explanation_for, unless}
use Rattle.machine_core.specs.Clerk.Commit.{not_in_conflict}
use Rattle.machine_core.specs.Own.{Own}
use Rattle.machine_core.specs.Tests.{attribute_of, session_of}
use Rattle.machine_core.specs.Views.{name_at, named_step}

-- the attribute of this word is fixed
abbrev pub fixed_at : State → ℕ → List ℕ → Checked (Unit {0})
fixed_at state attribute word = unless (is_some (fixed_by (cell_at state attribute))) (NotFixed word)

-- an explanation by the names of attributes and rules
abbrev pub named_explanation : Bound → ℕ → Explanation → Explained
named_explanation bound attribute explanation = record {
  attribute = name_at bound.names.attributes attribute;
  steps = map (named_step bound) explanation.steps;
  uses = map (name_at bound.names.attributes) explanation.uses;
}

-- why a run fixes an attribute, so named
abbrev pub explanation_of : Bound → State → List Step → ℕ → Checked Explained
explanation_of bound state run attribute = do
  explanation ← explanation_for bound.kit state run attribute
  done (named_explanation bound attribute explanation)

-- the tests of a session on an edition, in their order, and why the attribute is fixed
abbrev pub explained_on : Bound → SessionRow → List ℕ → Checked Explained
explained_on bound session word = do
  attribute ← attribute_of bound.names.attributes word
  answer ← answer_for bound.kit (state_of session)
  not_in_conflict answer.verdict
  fixed_at (end_of bound.kit (state_of session) answer.first) attribute word
  explanation_of bound (state_of session) answer.first attribute

-- the session of this number, active or closed, and why the attribute is fixed in it
abbrev pub explain : Published → Own → ℕ → List ℕ → Checked Explained
explain published own number word = do
  session ← session_of own.sessions number
  bound ← bound_for published session
  explained_on bound session word

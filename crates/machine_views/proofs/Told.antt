-- What is told of an answer: steps of the kit, and the view.
use Rattle.std.proofs.Common.{◌≡◌, ◌∙◌, ℕ, List, [], ◌∷◌, map, Option, Some, None, Ok, ap, refl}
use Rattle.std.specs.Prelude.{All, IfSome}
use Rattle.std.specs.List.{range_with_len}
use Rattle.std.proofs.lemmas.List.Elements.{All-cons, All-nil}
use Rattle.fix_model.specs.declared.kit.Kit.{Kit}
use Rattle.fix_model.specs.declared.state.State.{State}
use Rattle.fix_model.specs.declared.state.Step.{Step}
use Rattle.fix_model.specs.Application.{after}
use Rattle.fix_model.specs.Rules.{IsStepOf}
use Rattle.fix_model.specs.Fix.{IsDissent}
use Rattle.fix_model.specs.Run.{IsRun, end_of}
use Rattle.fix_engine.specs.declared.verdict.Verdict.{Verdict}
use Rattle.fix_engine.specs.declared.verdict.Verdict.TheVariants.{Fix, Conflict}
use Rattle.fix_engine.specs.Verdicts.{IsAnswer}
use Rattle.desk_words.specs.declared.rows.edition.EditionRow.{EditionRow}
use Rattle.desk_words.specs.declared.rows.session.SessionRow.{SessionRow}
use Rattle.desk_words.specs.declared.view.Outcome.{Outcome}
use Rattle.desk_words.specs.declared.view.View.{View}
use Rattle.desk_words.specs.declared.view.ViewCell.{ViewCell}
use Rattle.desk_words.specs.Tables.{Published}
use Rattle.desk_valid.specs.declared.bound.Bound.{Bound}
use Rattle.desk_valid.specs.Bindings.{bound_at}
use Rattle.machine_core.specs.Answers.{shown_state, state_of}
use Rattle.machine_core.specs.Checked.{Answer, Gives, IsFound}
use Rattle.machine_core.specs.Clerk.Commit.{not_in_conflict}
use Rattle.machine_core.specs.Views.{edition_at, named_step, outcome_of, view_cell, view_of, view_with}
use Rattle.machine_views.specs.Answered.{NamesSteps}

module _ (kit : Kit) where
  -- the steps of a run are steps of the kit
  pub run-steps : (state : State) (run : List Step) → IsRun kit state run → All (IsStepOf kit) run
  run-steps state [] is = All-nil (IsStepOf kit)
  run-steps state (step ∷ rest) is =
      All-cons (IsStepOf kit) step rest (is.0.rule_within, is.0.agrees.usable.row_within)
      (run-steps (after kit state step) rest is.1)

  -- the first run of an answer is one
  pub first-run : (state : State) (first second : List Step) (verdict : Verdict)
      → IsAnswer kit state first second verdict
      → IsRun kit state first
  first-run state first second (Fix certain dissent) is = is.0.is_first.holds.0
  first-run state first second Conflict is = is.is_first.holds.0

  dissent-step : (end : State) (dissent : Option Step) → IsDissent kit end dissent → IfSome dissent (IsStepOf kit)
  dissent-step end None is = tt
  dissent-step end (Some step) is = (is.holds.rule_within, is.holds.agrees.usable.row_within)

  -- the steps that are told with a verdict are steps of the kit
  pub told-steps : (state : State) (first second : List Step) (verdict : Verdict)
      → IsAnswer kit state first second verdict
      → NamesSteps kit second verdict
  told-steps state first second (Fix certain dissent) is = dissent-step (end_of kit state first) dissent is.0.is_dissent
  told-steps state first second Conflict is = run-steps state second is.is_second.holds.maximal.0

-- what is shown of a fix is the end of its first run
pub end-shown : (bound : Bound) (state : State) (answer : Answer) (verdict : Verdict)
    → IsFound (not_in_conflict verdict) tt
    → shown_state bound state answer verdict ≡ end_of bound.kit state answer.first
end-shown bound state answer (Fix certain dissent) fix = refl
end-shown bound state answer Conflict fix = absurd cc

-- a session is shown by the answer for its state
pub view-given : (published : Published) (number : ℕ) (session : SessionRow) (bound : Bound) (answer : Answer)
    (view : View)
    → bound_at published session.edition ≡ Some bound
    → IsAnswer bound.kit (state_of session) answer.first answer.second answer.verdict
    → view ≡ view_with published number session bound answer → Gives (view_of published number session) (Ok view)
view-given published number session bound answer view here is same = rw here (answer, is, ap Ok same)

module _ (published : Published) (number : ℕ) (session : SessionRow) (bound : Bound) (answer : Answer) (shown : State)
    (row : EditionRow) (name : List ℕ) (cells : List ViewCell) (first : List (List ℕ × ℕ)) (outcome : Outcome) where
  -- the view that is made of these parts
  abbrev made-view : View
  made-view = record {
    session = number;
    edition = name;
    version = row.version;
    stage = session.stage;
    cells = cells;
    first = first;
    outcome = outcome;
  }

  -- is the view of the session
  pub view-parts : row ≡ edition_at published session.edition → name ≡ row.name
      → shown ≡ shown_state bound (state_of session) answer answer.verdict
      → cells ≡ map (view_cell bound shown) (range_with_len 0 bound.kit.width)
      → first ≡ map (named_step bound) answer.first
      → outcome ≡ outcome_of bound answer answer.verdict
      → made-view ≡ view_with published number session bound answer
  view-parts edition named state listed steps told =
      let all : cells ≡ map (view_cell bound (shown_state bound (state_of session) answer answer.verdict))
      (range_with_len 0 bound.kit.width) =
      listed ∙ ap (λ one. map (view_cell bound one) (range_with_len 0 bound.kit.width)) state in
      let name_is : name ≡ (edition_at published session.edition).name =
      named ∙ ap (λ (one : EditionRow). one.name) edition in
      λ i. record {
        session = number;
        edition = name_is i;
        version = (edition i).version;
        stage = session.stage;
        cells = all i;
        first = steps i;
        outcome = told i;
      }

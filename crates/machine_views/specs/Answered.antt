-- What the rules make of a session, as a call leaves it.
use Rattle.std.specs.Prelude.{◌≡◌, ◌≤◌, List, All, IfSome, length, Some}
use Rattle.desk_base.specs.declared.limits.TheConstants.{MAX_SHEET_ROWS}
use Rattle.desk_words.specs.declared.rows.session.SessionRow.{SessionRow}
use Rattle.desk_words.specs.Tables.{Published}
use Rattle.desk_valid.specs.Bindings.{IsNamedKit, bound_at}
use Rattle.fix_model.specs.declared.kit.Kit.{Kit}
use Rattle.fix_model.specs.declared.state.Step.{Step}
use Rattle.fix_model.specs.Rules.{IsStepOf}
use Rattle.fix_model.specs.States.{Fits}
use Rattle.fix_engine.specs.declared.verdict.Verdict.{Verdict}
use Rattle.fix_engine.specs.declared.verdict.Verdict.TheVariants.{Fix, Conflict}
use Rattle.fix_engine.specs.Verdicts.{IsAnswer}
use Rattle.fix_engine.specs.WorkSeen.{WorkSeen}
use Rattle.master_index.specs.declared.shelf.Shelved.{Shelved}
use Rattle.machine_core.specs.Answers.{shown_state, state_of}
use Rattle.machine_core.specs.Checked.{Answer}
use Rattle.machine_core.specs.Shelves.{bound_on}
use Rattle.machine_views.specs.declared.answers.Answered.{Answered}

-- the answer whose runs the work holds
abbrev pub answer_in : WorkSeen → Verdict → Answer
answer_in work verdict = record { first = work.first; second = work.second; verdict = verdict }

-- each place of the kit has a name, and no master has more rows than a sheet may have
pub record IsNamedBook (shelved : Shelved) : Type 0 where
  pub named : IsNamedKit (bound_on shelved)
  pub few_rows : All (λ master. length master.rows ≤ MAX_SHEET_ROWS) shelved.book.masters

-- the kit has as many attributes as the session
pub record Suits (shelved : Shelved) (session : SessionRow) : Type 0 where
  pub book : IsNamedBook shelved
  pub typed : length session.typed ≡ shelved.book.width
  pub confirmed : length session.confirmed ≡ shelved.book.width

-- the book is that of the session's edition
pub record IsBookFor (published : Published) (session : SessionRow) (shelved : Shelved) : Type 0 where
  pub bound : bound_at published session.edition ≡ Some (bound_on shelved)
  pub suits : Suits shelved session

-- the verdict on a session with the runs that the work holds, and the state that is shown of it
pub record IsAnswered (shelved : Shelved) (session : SessionRow) (work : WorkSeen) (answered : Answered) : Type 0 where
  pub answer : IsAnswer shelved.book (state_of session) work.first work.second answered.verdict
  pub shown : answered.shown
      ≡ shown_state (bound_on shelved) (state_of session) (answer_in work answered.verdict) answered.verdict
  pub fits : Fits shelved.book answered.shown

-- the steps that are told with a verdict are steps of the kit
abbrev pub NamesSteps : Kit → List Step → Verdict → Type 0
NamesSteps kit second (Fix certain dissent) = IfSome dissent (IsStepOf kit)
NamesSteps kit second Conflict = All (IsStepOf kit) second

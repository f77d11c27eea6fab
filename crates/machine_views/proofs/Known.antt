-- What sessions came to, and what is known of it.
use Rattle.std.proofs.Common.{◌≡◌, ◌∙◌, ◌+◌, Some, Ok, ap, refl}
use Rattle.desk_words.specs.declared.rows.session.SessionRow.{SessionRow}
use Rattle.desk_words.specs.Tables.{Published}
use Rattle.desk_valid.specs.Bindings.{bound_at}
use Rattle.fix_engine.specs.WorkSeen.{WorkSeen}
use Rattle.fix_model.specs.declared.state.State.{State}
use Rattle.machine_core.specs.Answers.{shown_state, state_of}
use Rattle.machine_core.specs.Checked.{Gives}
use Rattle.machine_core.specs.Look.Report.{Assessment, assessment_of}
use Rattle.machine_core.specs.Shelves.{bound_on}
use Rattle.master_index.specs.declared.shelf.Shelved.{Shelved}
use Rattle.machine_views.specs.Answered.{IsAnswered, answer_in}
use Rattle.machine_views.specs.Counts.{one_more}
use Rattle.machine_views.specs.Reporting.{with_session, with_stage, with_upshot}
use Rattle.machine_workplace.specs.Upshots.{AreCellsUpTo, IsUpshotOf, cells_in}
use Rattle.machine_workplace.specs.Upshots.{cells_of_both}
use Rattle.machine_views.specs.declared.answers.Answered.{Answered}
use Rattle.machine_views.specs.declared.looks.counts.Counts.{Counts}
use Rattle.machine_workplace.specs.declared.upshots.Upshot.{Upshot}

-- an answer by the book of a session's edition is what the session comes to
pub upshot-given : (published : Published) (session : SessionRow) (shelved : Shelved) (work : WorkSeen)
    (answered : Answered) (upshot : Upshot) → bound_at published session.edition ≡ Some (bound_on shelved)
    → IsAnswered shelved session work answered → upshot.verdict ≡ answered.verdict
    → upshot.cells ≡ cells_in answered.shown.cells → AreCellsUpTo 48 upshot.cells
    → IsUpshotOf published session upshot
upshot-given published session shelved work answered upshot here is verdict cells few = record {
  bound = bound_on shelved;
  is_bound = here;
  answer = answer_in work answered.verdict;
  is_answer = is.answer;
  verdict = verdict;
  cells = cells ∙ ap (λ (state : State). cells_in state.cells) is.shown;
  few = few;
}

module _ (published : Published) (session : SessionRow) (upshot : Upshot) (is : IsUpshotOf published session upshot)
  where
    -- the session with what the rules make of it
    abbrev pub assessment : Assessment
    assessment = record {
      session = session;
      verdict = is.answer.verdict;
      cells = (shown_state is.bound (state_of session) is.answer is.answer.verdict).cells;
    }

    -- is what is found of it
    pub assessment-found : Gives (assessment_of published session) (Ok assessment)
    assessment-found = rw is.is_bound (is.answer, is.is_answer, refl)

    -- and is counted as what it came to
    pub upshot-counted : (counts : Counts) → with_upshot counts session.stage upshot ≡ with_session counts assessment
    upshot-counted counts = λ i. record {
      sessions = counts.sessions + 1;
      stages = with_stage counts.stages session.stage;
      verdicts = one_more counts.verdicts (is.verdict i);
      cells = cells_of_both counts.cells (is.cells i);
    }

use Rattle.std.proofs.Common.{◌≡◌, ◌∙◌, ℕ, Ok, Err, Result, subst}
use Rattle.std.specs.Prelude.{IsErrAnd}
use Rattle.desk_words.specs.declared.blocked.Blocked.{Blocked}
use Rattle.desk_words.specs.declared.rows.session.SessionRow.{SessionRow}
use Rattle.desk_valid.specs.declared.bound.Bound.{Bound}
use Rattle.fix_model.specs.declared.state.State.{State}
use Rattle.fix_model.specs.Run.{end_of}
use Rattle.fix_engine.specs.Verdicts.{IsAnswer}
use Rattle.machine_core.specs.Answers.{state_of}
use Rattle.machine_core.specs.Checked.{Answer, Checked, ◌>>◌, Gives, IsFound}
use Rattle.machine_core.specs.Clerk.Commit.{not_in_conflict}
use Rattle.machine_core.specs.Look.Blocked.{blocked_in, blocked_on}
use Rattle.machine_core.specs.Outcomes.{Answers, Finds}
use Rattle.machine_core.specs.declared.stop.Stop.{Stop}
use Rattle.machine_core.specs.declared.stop.Stop.TheVariants.{Refused, NoMemory}
use Rattle.machine_core.proofs.Answering.{Answers-found, Answers-stopped}
use Rattle.machine_core.specs.Shelves.{bound_on}
use Rattle.machine_views.specs.Answered.{answer_in}
use Rattle.machine_views.proofs.Told.{end-shown}
use Rattle.machine_views.proofs.looks.blocking.blocked_on.Goals as goal

module _ (number : ℕ) (bound : Bound) (session : SessionRow) (answer : Answer)
    (is : IsAnswer bound.kit (state_of session) answer.first answer.second answer.verdict) where
  -- what is left once the rules have answered
  abbrev left : Answer → Checked Blocked
  left one = not_in_conflict one.verdict >> blocked_in number bound (end_of bound.kit (state_of session) one.first)

  -- is answered as the whole
  blocked-answered : (result : Result Blocked Stop) → Answers result (left answer)
      → Answers result (blocked_on number bound session)
  blocked-answered (Ok blocked) gives = (answer, is, gives)
  blocked-answered (Err (Refused refusal)) gives = (answer, is, gives)
  blocked-answered (Err NoMemory) gives = tt

  -- it stops at a conflict
  blocked-conflicting : (stop : Stop) (result : Result Blocked Stop) → IsErrAnd result (λ one. one ≡ stop)
      → Finds {A = Unit {0}} (Err stop) (not_in_conflict answer.verdict)
      → Answers result (blocked_on number bound session)
  blocked-conflicting stop result stops finds =
      blocked-answered result (Answers-stopped (not_in_conflict answer.verdict)
      (λ _. blocked_in number bound (end_of bound.kit (state_of session) answer.first)) stop result stops
      (Answers-found (not_in_conflict answer.verdict) (Err stop) finds))

  -- and is else what is blocked at the end of the run
  blocked-fix : (result : Result Blocked Stop) → IsFound (not_in_conflict answer.verdict) tt
      → Answers result (blocked_in number bound (end_of bound.kit (state_of session) answer.first))
      → Answers result (blocked_on number bound session)
  blocked-fix result fix answers = blocked-answered result (rw fix answers)

pub returns-in_err-not_in_conflict-clause-blocked : goal.returns-in_err-not_in_conflict-clause-blocked
returns-in_err-not_in_conflict-clause-blocked c =
    blocked-conflicting c.args.number (bound_on c.args.asked.now.shelved.now) c.args.asked.now.session.now
    (answer_in c.answer_to.new.work c.in_ok-answered.answered.verdict) c.in_ok-answered.ensures.answered.answer
    c.in_err-not_in_conflict.field-0.0 c.from_residual-in_err-not_in_conflict.result
    c.from_residual-in_err-not_in_conflict.ensures.1 c.in_err-not_in_conflict.ensures.finds

pub returns-clause-blocked : goal.returns-clause-blocked
returns-clause-blocked c =
    let bound = bound_on c.args.asked.now.shelved.now in
    let session = c.args.asked.now.session.now in
    let state = state_of session in
    let verdict = c.in_ok-answered.answered.verdict in
    let answer = answer_in c.answer_to.new.work verdict in
    let end = c.in_ok-answered.ensures.answered.shown
    ∙ end-shown bound state answer verdict c.in_ok-not_in_conflict.ensures.finds in
    blocked-fix c.args.number bound session answer c.in_ok-answered.ensures.answered.answer
    (Ok c.in_ok-blocked_in.field-0) c.in_ok-not_in_conflict.ensures.finds
    (subst (λ (one : State). Gives (blocked_in c.args.number bound one) (Ok c.in_ok-blocked_in.field-0)) end
    c.in_ok-blocked_in.ensures)

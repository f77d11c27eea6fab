use Rattle.std.proofs.Common.{◌≡◌, ◌∙◌, ℕ, List, length, arith, ap, subst}
use Rattle.std.specs.Prelude.{is_some, Result, Ok, Err, IsErrAnd}
use Rattle.desk_words.specs.declared.reply.Explained.{Explained}
use Rattle.desk_words.specs.declared.refusal.Refusal.TheVariants.{NotFixed}
use Rattle.desk_words.specs.declared.rows.session.SessionRow.{SessionRow}
use Rattle.desk_valid.specs.declared.bound.Bound.{Bound}
use Rattle.fix_model.specs.declared.state.State.{State}
use Rattle.fix_model.specs.Run.{end_of}
use Rattle.fix_model.specs.States.{cell_at, fixed_by}
use Rattle.fix_engine.specs.Verdicts.{IsAnswer}
use Rattle.fix_explain.specs.Reasons.{IsFixed}
use Rattle.machine_core.specs.Answers.{shown_state, state_of}
use Rattle.machine_core.specs.Checked.{Answer, Checked, ◌>>◌, IsFound}
use Rattle.machine_core.specs.Clerk.Commit.{not_in_conflict}
use Rattle.machine_core.specs.Look.Explain.{explained_on, explanation_of, fixed_at}
use Rattle.machine_core.specs.Outcomes.{Answers, Finds}
use Rattle.machine_core.specs.Tests.{attribute_of}
use Rattle.machine_core.specs.declared.stop.Stop.{Stop}
use Rattle.machine_core.specs.declared.stop.Stop.TheVariants.{Refused, NoMemory}
use Rattle.machine_core.proofs.Answering.{Answers-found, Answers-stopped}
use Rattle.machine_core.proofs.Tested.{unless-ok}
use Rattle.machine_core.specs.Shelves.{bound_on}
use Rattle.machine_views.specs.Answered.{answer_in}
use Rattle.machine_views.proofs.Told.{end-shown, first-run}
use Rattle.machine_views.proofs.looks.explaining.explained_on.Goals as goal

module _ (bound : Bound) (session : SessionRow) (word : List ℕ) (attribute : ℕ) (answer : Answer)
    (found : IsFound (attribute_of bound.names.attributes word) attribute)
    (is : IsAnswer bound.kit (state_of session) answer.first answer.second answer.verdict) where
  -- what is left once the rules have answered
  abbrev left : Answer → Checked Explained
  left one = not_in_conflict one.verdict
      >> (fixed_at (end_of bound.kit (state_of session) one.first) attribute word
      >> explanation_of bound (state_of session) one.first attribute)

  -- is answered as the whole
  explained-answered : (result : Result Explained Stop) → Answers result (left answer)
      → Answers result (explained_on bound session word)
  explained-answered (Ok explained) gives = rw found (answer, is, gives)
  explained-answered (Err (Refused refusal)) gives = rw found (answer, is, gives)
  explained-answered (Err NoMemory) gives = tt

  -- it stops at a conflict
  explained-conflicting : (stop : Stop) (result : Result Explained Stop) → IsErrAnd result (λ one. one ≡ stop)
      → Finds {A = Unit {0}} (Err stop) (not_in_conflict answer.verdict)
      → Answers result (explained_on bound session word)
  explained-conflicting stop result stops finds =
      let end : State = end_of bound.kit (state_of session) answer.first in
      explained-answered result (Answers-stopped (not_in_conflict answer.verdict) (λ _. fixed_at end attribute word
      >> explanation_of bound (state_of session) answer.first attribute) stop result stops
      (Answers-found (not_in_conflict answer.verdict) (Err stop) finds))

  module _ (shown : State) (shows : shown ≡ shown_state bound (state_of session) answer answer.verdict)
      (fix : IsFound (not_in_conflict answer.verdict) tt) where
    -- what is shown of a fix is its end
    is-end : shown ≡ end_of bound.kit (state_of session) answer.first
    is-end = shows ∙ end-shown bound (state_of session) answer answer.verdict fix

    -- it stops where the attribute is not fixed
    explained-unfixed : (stop : Stop) (result : Result Explained Stop) → IsErrAnd result (λ one. one ≡ stop)
        → Finds {A = Unit {0}} (Err stop) (fixed_at shown attribute word)
        → Answers result (explained_on bound session word)
    explained-unfixed stop result stops finds =
        let end : State = end_of bound.kit (state_of session) answer.first in
        let ends = subst (λ (one : State). Finds {A = Unit {0}} (Err stop) (fixed_at one attribute word)) is-end finds
        in
        explained-answered result (rw fix (Answers-stopped (fixed_at end attribute word)
        (λ _. explanation_of bound (state_of session) answer.first attribute) stop result stops
        (Answers-found (fixed_at end attribute word) (Err stop) ends)))

    module _ (fixed : IsFound (fixed_at shown attribute word) tt) where
      -- an attribute that passes the test is fixed
      end-fixed : IsFixed (end_of bound.kit (state_of session) answer.first) attribute
      end-fixed = subst (λ (one : State). IsFixed one attribute) is-end
          (unless-ok (is_some (fixed_by (cell_at shown attribute))) (NotFixed word) tt
          (Answers-found (fixed_at shown attribute word) (Ok tt) fixed))

      -- and is explained by what the run says
      explained-fixed : (result : Result Explained Stop)
          → Answers result (explanation_of bound (state_of session) answer.first attribute)
          → Answers result (explained_on bound session word)
      explained-fixed result answers = explained-answered result
          (rw (fix, subst (λ (one : State). IsFound (fixed_at one attribute word) tt) is-end fixed) answers)

pub returns-in_err-not_in_conflict-clause-explained : goal.returns-in_err-not_in_conflict-clause-explained
returns-in_err-not_in_conflict-clause-explained c =
    let found = rw c.as_slice.ensures at c.in_ok-attribute.ensures.finds in
    explained-conflicting (bound_on c.args.asked.now.shelved.now) c.args.asked.now.session.now c.args.word.now
    c.in_ok-attribute.field-0
    (answer_in c.answer_to.new.work c.in_ok-answered.answered.verdict) found c.in_ok-answered.ensures.answered.answer
    c.in_err-not_in_conflict.field-0.0 c.from_residual-in_err-not_in_conflict.result
    c.from_residual-in_err-not_in_conflict.ensures.1 c.in_err-not_in_conflict.ensures.finds

pub returns-in_err-fixed_at-clause-explained : goal.returns-in_err-fixed_at-clause-explained
returns-in_err-fixed_at-clause-explained c =
    let found = rw c.as_slice.ensures at c.in_ok-attribute.ensures.finds in
    explained-unfixed (bound_on c.args.asked.now.shelved.now) c.args.asked.now.session.now c.args.word.now
    c.in_ok-attribute.field-0
    (answer_in c.answer_to.new.work c.in_ok-answered.answered.verdict) found c.in_ok-answered.ensures.answered.answer
    c.in_ok-answered.answered.shown c.in_ok-answered.ensures.answered.shown c.in_ok-not_in_conflict.ensures.finds
    c.in_err-fixed_at.field-0.0 c.from_residual-in_err-fixed_at.result c.from_residual-in_err-fixed_at.ensures.1
    c.in_err-fixed_at.ensures

pub explanation_of-requires-clause-fixed : goal.explanation_of-requires-clause-fixed
explanation_of-requires-clause-fixed c =
    let found = rw c.as_slice.ensures at c.in_ok-attribute.ensures.finds in
    rw (c.in_ok-state.ensures.state, c.first.ensures) (end-fixed (bound_on c.args.asked.now.shelved.now)
    c.args.asked.now.session.now
    c.args.word.now c.in_ok-attribute.field-0 (answer_in c.answer_to.new.work c.in_ok-answered.answered.verdict) found
    c.in_ok-answered.ensures.answered.answer c.in_ok-answered.answered.shown c.in_ok-answered.ensures.answered.shown
    c.in_ok-not_in_conflict.ensures.finds c.in_ok-fixed_at.ensures)

pub explanation_of-requires-clause-run : goal.explanation_of-requires-clause-run
explanation_of-requires-clause-run c =
    let work = c.answer_to.new.work in
    rw (c.in_ok-state.ensures.state, c.first.ensures)
    (first-run c.args.asked.now.shelved.now.book (state_of c.args.asked.now.session.now) work.first work.second
    c.in_ok-answered.answered.verdict c.in_ok-answered.ensures.answered.answer)

pub explanation_of-requires-clause-fits : goal.explanation_of-requires-clause-fits
explanation_of-requires-clause-fits c =
    c.in_ok-state.ensures.fits c.args.asked.now.shelved.now.book c.requires.suits.typed

pub explanation_of-requires-clause-attribute : goal.explanation_of-requires-clause-attribute
explanation_of-requires-clause-attribute c =
    omega (
      arith,
      c.in_ok-attribute.ensures.within,
      ap length c.as_slice.ensures,
      c.requires.suits.book.named.attributes,
    )

pub returns-clause-explained : goal.returns-clause-explained
returns-clause-explained c =
    let found = rw c.as_slice.ensures at c.in_ok-attribute.ensures.finds in
    explained-fixed (bound_on c.args.asked.now.shelved.now) c.args.asked.now.session.now c.args.word.now
    c.in_ok-attribute.field-0
    (answer_in c.answer_to.new.work c.in_ok-answered.answered.verdict) found c.in_ok-answered.ensures.answered.answer
    c.in_ok-answered.answered.shown c.in_ok-answered.ensures.answered.shown c.in_ok-not_in_conflict.ensures.finds
    c.in_ok-fixed_at.ensures (Ok c.in_ok-explanation_of.field-0)
    (rw (c.in_ok-state.ensures.state, c.first.ensures) at c.in_ok-explanation_of.ensures)

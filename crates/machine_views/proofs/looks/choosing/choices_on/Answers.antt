use Rattle.std.proofs.Common.{◌≡◌, Ok, map}
use Rattle.std.specs.Prelude.{option_map}
use Rattle.fix_choices.specs.Choices.{choices_of}
use Rattle.fix_choices.specs.Dissents.{dissent_of}
use Rattle.machine_core.specs.Answers.{state_of}
use Rattle.machine_core.specs.Look.Choices.{shown_choice, shown_dissent}
use Rattle.machine_core.specs.Shelves.{bound_on}
use Rattle.machine_views.specs.Answered.{answer_in}
use Rattle.machine_views.proofs.looks.choosing.choices_on.Goals as goal

pub returns-clause-choices : goal.returns-clause-choices
returns-clause-choices c =
    let session = c.args.asked.now.session.now in
    let bound = bound_on c.args.asked.now.shelved.now in
    let state = state_of session in
    let work = c.answer_to.new.work in
    let verdict = c.in_ok-answered.answered.verdict in
    let answer = answer_in work verdict in
    let choices : c.in_ok-choices.choices
    ≡ map (shown_choice bound) (choices_of bound.kit state work.first work.second verdict) =
    rw c.in_ok-state.ensures.state at c.in_ok-choices.ensures in
    let dissent : c.in_ok-dissent.dissent
    ≡ option_map (shown_dissent bound) (dissent_of bound.kit state work.first verdict) =
    rw c.in_ok-state.ensures.state at c.in_ok-dissent.ensures in (
      answer,
      c.in_ok-answered.ensures.answered.answer,
      λ i. Ok (record { session = c.args.number; choices = choices i; dissent = dissent i }),
    )

use Rattle.desk_words.specs.Tables.{published_of, rows_of}
use Rattle.machine_core.specs.Answers.{state_of}
use Rattle.machine_core.specs.Shelves.{bound_on}
use Rattle.machine_views.specs.Answered.{answer_in}
use Rattle.machine_core.proofs.ReadRows.{edition-read}
use Rattle.machine_views.proofs.Known.{upshot-given}
use Rattle.machine_views.proofs.Told.{first-run, run-steps, told-steps, view-given, view-parts}
use Rattle.machine_views.proofs.views.view_on.Goals as goal

pub named_steps-requires-clause-steps : goal.named_steps-requires-clause-steps
named_steps-requires-clause-steps c =
    let kit = c.args.asked.now.shelved.now.book in
    let state = state_of c.args.asked.now.session.now in
    let work = c.answer_to.new.work in
    let is = c.in_ok-answered.ensures.answered.answer in
    rw c.first.ensures
    (run-steps kit state work.first (first-run kit state work.first work.second c.in_ok-answered.answered.verdict is))

pub outcome_of-requires-clause-steps : goal.outcome_of-requires-clause-steps
outcome_of-requires-clause-steps c =
    let work = c.answer_to.new.work in
    rw c.second.ensures
    (told-steps c.args.asked.now.shelved.now.book (state_of c.args.asked.now.session.now) work.first work.second
    c.in_ok-answered.answered.verdict c.in_ok-answered.ensures.answered.answer)

pub returns-clause-view : goal.returns-clause-view
returns-clause-view c =
    let published = published_of (rows_of c.args.tables.now) in
    let session = c.args.asked.now.session.now in
    let bound = bound_on c.args.asked.now.shelved.now in
    let answer = answer_in c.answer_to.new.work c.in_ok-answered.answered.verdict in
    let row = c.index-as_slice-session.result in
    let edition = edition-read published session.edition row c.requires.edition
    (rw c.as_slice.ensures at c.index-as_slice-session.is) in
    let first = rw c.first.ensures at c.in_ok-first.ensures in
    let outcome = rw c.second.ensures at (c.in_ok-outcome.ensures answer.first) in
    view-given published c.args.number session bound answer _ c.requires.book.bound
    c.in_ok-answered.ensures.answered.answer (view-parts published c.args.number session bound answer
    c.in_ok-answered.answered.shown row c.in_ok-copy.field-0 c.in_ok-cells.cells c.in_ok-first.first
    c.in_ok-outcome.outcome edition c.in_ok-copy.ensures.copied c.in_ok-answered.ensures.answered.shown
    c.in_ok-cells.ensures first outcome)

pub returns-clause-upshot : goal.returns-clause-upshot
returns-clause-upshot c =
    upshot-given (published_of (rows_of c.args.tables.now)) c.args.asked.now.session.now c.args.asked.now.shelved.now
    c.answer_to.new.work c.in_ok-answered.answered c.upshot.result c.requires.book.bound
    c.in_ok-answered.ensures.answered c.upshot.ensures.verdict c.upshot.ensures.cells c.upshot.ensures.few

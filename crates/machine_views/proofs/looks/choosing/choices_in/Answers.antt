use Rattle.machine_views.proofs.Choosing.{choices-named}
use Rattle.machine_views.proofs.looks.choosing.choices_in.Goals as goal

pub shown_choices-requires-clause-choices : goal.shown_choices-requires-clause-choices
shown_choices-requires-clause-choices c =
    let work = c.args.work.now in
    rw (c.as_slice.ensures, c.in_ok-choices.ensures, c.first-first.ensures, c.second-second.ensures)
    (choices-named c.args.shelved.now.book c.requires.named.named.valid c.args.state.now c.requires.fits work.first
    work.second c.args.verdict c.requires.answer)

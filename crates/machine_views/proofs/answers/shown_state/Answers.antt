use Rattle.fix_model.proofs.Lengths.{Fits-end_of}
use Rattle.machine_views.proofs.Told.{first-run}
use Rattle.machine_views.proofs.answers.shown_state.Goals as goal

pub returns-in-Fix-clause-fits : goal.returns-in-Fix-clause-fits
returns-in-Fix-clause-fits c =
    let kit = c.args.shelved.now.book in
    let work = c.args.work.now in
    let run = first-run kit c.args.state work.first work.second c.args.verdict c.requires.answer in
    let ends = rw c.first.ensures at c.apply.ensures in
    rw ends (Fits-end_of kit c.requires.valid c.args.state work.first c.requires.fits run)

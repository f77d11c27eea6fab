use Rattle.fix_model.proofs.Lengths.{Fits-end_of}
use Rattle.fix_choices.proofs.choosing.end_of.Goals as goal

pub returns-clause-fits : goal.returns-clause-fits
returns-clause-fits g c = rw (c.apply.ensures, c.in_ok-end.ensures.copied)
    (Fits-end_of (g.B.Book.kit c.args.book.now) c.width-width.ensures.valid c.args.state.now c.args.run.now
    c.requires.fits c.requires.run)

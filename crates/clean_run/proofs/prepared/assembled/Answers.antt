use Rattle.std.proofs.Common.{refl}
use Rattle.clean_run.proofs.Settings.{IsSettingOf-bound, bound-book}
use Rattle.clean_run.proofs.prepared.assembled.Goals as goal

pub returns-clause-fits : goal.returns-clause-fits
returns-clause-fits c = IsSettingOf-bound c.args.parts c.in_ok-book.book _ c.requires.parts
    (bound-book c.args.parts c.in_ok-book.book c.in_ok-book.ensures.book)
    (rw c.as_slice.ensures at c.in_ok-names.ensures) refl c.requires.fit.delimiter

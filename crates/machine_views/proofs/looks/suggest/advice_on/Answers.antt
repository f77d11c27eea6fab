use Rattle.std.proofs.Common.{◌∙◌, ap, arith, length}
use Rattle.desk_words.specs.Tables.{rows_of}
use Rattle.machine_core.specs.Look.Suggest.{regions_of}
use Rattle.machine_core.specs.Shelves.{bound_on}
use Rattle.machine_views.proofs.Advising.{regions-few, regions-good, regions-short}
use Rattle.machine_views.proofs.looks.suggest.advice_on.Goals as goal

pub suggest-requires-clause-regions : goal.suggest-requires-clause-regions
suggest-requires-clause-regions c =
    rw (c.as_slice-2.ensures, c.in_ok-regions.ensures, c.as_slice.ensures)
    (regions-good (rows_of c.args.tables.now) c.requires.valid c.args.asked.now.session.now.edition (bound_on
    c.args.asked.now.shelved.now)
    c.requires.book.bound)

pub suggest-requires-clause-few_regions : goal.suggest-requires-clause-few_regions
suggest-requires-clause-few_regions c =
    let few = regions-few (rows_of c.args.tables.now) c.requires.valid c.args.asked.now.session.now.edition in
    let same = c.as_slice-2.ensures ∙ c.in_ok-regions.ensures
    ∙ ap (λ rows. regions_of rows c.args.asked.now.session.now.edition) c.as_slice.ensures in
    omega (arith, few, ap length same)

pub suggest-requires-clause-few_rows : goal.suggest-requires-clause-few_rows
suggest-requires-clause-few_rows c =
    rw (c.as_slice-2.ensures, c.in_ok-regions.ensures, c.as_slice.ensures)
    (regions-short (rows_of c.args.tables.now) c.requires.valid c.args.asked.now.session.now.edition)

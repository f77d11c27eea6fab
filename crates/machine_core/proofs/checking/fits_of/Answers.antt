use Rattle.std.proofs.Common.{subst, sym}
use Rattle.desk_words.specs.declared.proposal.Proposal.{Proposal}
use Rattle.desk_words.specs.Tables.{published_of, rows_of}
use Rattle.machine_core.specs.DeskLook.Check.{fits_of}
use Rattle.machine_core.specs.Outcomes.{Finds}
use Rattle.machine_core.proofs.checking.fits_of.Goals as goal

pub returns-in-Master : goal.returns-in-Master
returns-in-Master c =
    let Found : Proposal → Type 0 = λ one.
    Finds c.master_fits.result (fits_of (published_of (rows_of c.args.tables.now)) one) in
    subst Found (sym c.in-Master.is) c.master_fits.ensures

pub returns-in-Rulebook : goal.returns-in-Rulebook
returns-in-Rulebook c =
    let Found : Proposal → Type 0 = λ one.
    Finds c.rulebook_fits.result (fits_of (published_of (rows_of c.args.tables.now)) one) in
    subst Found (sym c.in-Rulebook.is) c.rulebook_fits.ensures

pub returns-in-Edition : goal.returns-in-Edition
returns-in-Edition c =
    let Found : Proposal → Type 0 = λ one.
    Finds c.edition_fits.result (fits_of (published_of (rows_of c.args.tables.now)) one) in
    subst Found (sym c.in-Edition.is)
    (rw (c.as_slice.ensures, c.as_slice-in-Edition.ensures) at c.edition_fits.ensures)

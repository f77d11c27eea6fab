use Rattle.std.proofs.Common.{Ok}
use Rattle.desk_words.specs.Tables.{published_of, rows_of}
use Rattle.machine_core.specs.Deriving.{derivation_of}
use Rattle.machine_core.proofs.Answering.{Answers-found}
use Rattle.machine_core.proofs.Deriving.{derivation-derivable, derivation-found, derivation-stopped}
use Rattle.machine_core.proofs.derived.derivation_of.Goals as goal

pub returns-clause-finds : goal.returns-clause-finds
returns-clause-finds c =
    let named = rw c.as_slice.ensures at c.in_ok-place.ensures.finds in
    let places = rw (c.as_slice-words.ensures, c.as_slice-names.ensures) at c.in_ok-attributes.ensures in
    derivation-found (published_of (rows_of c.args.tables.now)) c.args.edition.now c.args.version c.args.master.now
    c.args.pairs.now c.in_ok-place.place c.in_ok-words.words c.in_ok-sheet.sheet
    (c.in_ok-attributes.attributes, c.in_ok-attributes.columns) named c.in_ok-words.ensures.words
    c.in_ok-sheet.ensures.finds places

pub returns-in_err-attributes-clause-finds : goal.returns-in_err-attributes-clause-finds
returns-in_err-attributes-clause-finds c =
    let named = rw c.as_slice.ensures at c.in_ok-place.ensures.finds in
    let places = rw (c.as_slice-words.ensures, c.as_slice-names.ensures) at c.in_err-attributes.ensures in
    derivation-stopped (published_of (rows_of c.args.tables.now)) c.args.edition.now c.args.version c.args.master.now
    c.args.pairs.now c.in_ok-place.place c.in_ok-words.words c.in_ok-sheet.sheet c.in_err-attributes.field-0.0
    c.from_residual-in_err-attributes.result named c.in_ok-words.ensures.words c.in_ok-sheet.ensures.finds
    c.from_residual-in_err-attributes.ensures.1 places

pub returns-clause-derivable : goal.returns-clause-derivable
returns-clause-derivable c =
    let rows = rows_of c.args.tables.now in
    derivation-derivable rows c.args.edition.now c.args.version c.args.master.now c.args.pairs.now _ c.requires
    (Answers-found (derivation_of (published_of rows) c.args.edition.now c.args.version c.args.master.now
    c.args.pairs.now) (Ok _) (returns-clause-finds c))

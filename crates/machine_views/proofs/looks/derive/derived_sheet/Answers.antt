use Rattle.std.proofs.Common.{◌∙◌, ◌<◌, All, ap, arith, length}
use Rattle.desk_words.specs.declared.reply.DerivedSheet.{DerivedSheet}
use Rattle.desk_words.specs.Tables.{published_of, rows_of}
use Rattle.machine_core.specs.Shelves.{bound_on}
use Rattle.machine_views.proofs.Derived.{asked-named, asked-within, rows-few, sheet-given}
use Rattle.machine_views.proofs.looks.derive.derived_sheet.Goals as goal

pub named_attributes-requires : goal.named_attributes-requires
named_attributes-requires c place past inside =
    let published = published_of (rows_of c.args.tables.now) in
    let bound = c.shelved.ensures.bound published c.in_ok-rows.ensures.held in
    let words = c.shelved.result.now.names.attributes in
    let all : All (λ attribute. attribute < length words) c.as_slice.result.now = rw c.as_slice.ensures
    (asked-within published c.args.edition.now c.args.version c.args.master.now c.args.pairs.now
    c.in_ok-derivation.derivation c.in_ok-derivation.ensures.finds (bound_on c.shelved.result.now) bound) in
    omega (arith, all place past inside, ap length c.as_slice-words.ensures)

pub numbered-requires : goal.numbered-requires
numbered-requires c =
    rows-few (published_of (rows_of c.args.tables.now)) c.args.edition.now c.args.version c.args.master.now
    c.args.pairs.now c.in_ok-derivation.derivation c.in_ok-derivation.ensures.finds c.in_ok-rows.rows
    c.in_ok-rows.ensures.rows

pub returns-clause-sheet : goal.returns-clause-sheet
returns-clause-sheet c =
    let published = published_of (rows_of c.args.tables.now) in
    let edition = c.args.edition.now in
    let master = c.args.master.now in
    let pairs = c.args.pairs.now in
    let derivation = c.in_ok-derivation.derivation in
    let finds = c.in_ok-derivation.ensures.finds in
    let bound = c.shelved.ensures.bound published c.in_ok-rows.ensures.held in
    let named = rw (c.as_slice-words.ensures, c.as_slice.ensures) at c.in_ok-attributes.ensures in
    let words = named ∙ asked-named published edition c.args.version master pairs derivation finds
    (bound_on c.shelved.result.now) bound in
    let sheet : DerivedSheet = record { attributes = c.in_ok-attributes.attributes; rows = c.in_ok-rows-2.rows } in
    sheet-given published edition c.args.version master pairs derivation c.in_ok-rows.rows sheet finds
    c.in_ok-rows.ensures.rows (λ i. record { attributes = words i; rows = c.in_ok-rows-2.ensures i })

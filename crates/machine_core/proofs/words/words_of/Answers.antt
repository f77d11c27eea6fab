use Rattle.std.proofs.Common.{length, ap, arith}
use Rattle.desk_words.specs.Tables.{rows_of}
use Rattle.machine_core.proofs.EditionWords.{schema-words}
use Rattle.machine_core.proofs.ReadRows.{row-stands}
use Rattle.machine_core.proofs.words.words_of.Goals as goal

pub bounds-as_slice-row : goal.bounds-as_slice-row
bounds-as_slice-row c =
    let good = c.requires.valid.editions c.args.edition c.index-as_slice-edition.result
    (row-stands c.as_slice.ensures c.requires.edition c.index-as_slice-edition.is) in
    omega (arith, good.rulebook, ap length c.as_slice-2.ensures)

pub schema_of-requires-clause-place : goal.schema_of-requires-clause-place
schema_of-requires-clause-place c =
    let row = c.index-as_slice-edition.result in
    let good = c.requires.valid.editions c.args.edition row
    (row-stands c.as_slice.ensures c.requires.edition c.index-as_slice-edition.is) in
    (c.requires.valid.rulebooks row.rulebook c.index-as_slice-row.result
    (row-stands c.as_slice-2.ensures good.rulebook c.index-as_slice-row.is)).schema

pub returns-clause-words : goal.returns-clause-words
returns-clause-words c =
    let row = c.index-as_slice-edition.result in
    let stands = row-stands c.as_slice.ensures c.requires.edition c.index-as_slice-edition.is in
    let good = c.requires.valid.editions c.args.edition row stands in
    schema-words (rows_of c.args.tables.now) c.args.edition row c.requires.valid stands c.index-as_slice-row.result
    c.in_ok-schema.schema (row-stands c.as_slice-2.ensures good.rulebook c.index-as_slice-row.is)
    c.in_ok-schema.ensures.schema

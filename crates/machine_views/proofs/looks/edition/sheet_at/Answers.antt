use Rattle.std.proofs.Common.{◌∙◌, refl}
use Rattle.desk_words.specs.Tables.{published_of, rows_of}
use Rattle.machine_core.specs.DeskLook.Edition.{Makings}
use Rattle.machine_core.proofs.Editions.{AreMakings, folded-stand, sheet-found}
use Rattle.machine_core.proofs.ReadRows.{row-stands}
use Rattle.machine_views.proofs.looks.edition.sheet_at.Goals as goal

pub bounds-as_slice-edition : goal.bounds-as_slice-edition
bounds-as_slice-edition c =
    let row = c.index-as_slice-place.result in
    let stands = row-stands c.as_slice.ensures c.requires.place c.index-as_slice-place.is in
    rw c.as_slice-2.ensures (c.requires.valid.editions c.args.place row stands).rulebook

pub bounds-as_slice-rulebook : goal.bounds-as_slice-rulebook
bounds-as_slice-rulebook c =
    let row = c.index-as_slice-place.result in
    let stands = row-stands c.as_slice.ensures c.requires.place c.index-as_slice-place.is in
    let within = (c.requires.valid.editions c.args.place row stands).rulebook in
    let book = c.index-as_slice-edition.result in
    let there = row-stands c.as_slice-2.ensures within c.index-as_slice-edition.is in
    rw c.as_slice-3.ensures (c.requires.valid.rulebooks row.rulebook book there).schema

pub rules_of-requires-clause-place : goal.rules_of-requires-clause-place
rules_of-requires-clause-place c =
    let row = c.index-as_slice-place.result in
    let stands = row-stands c.as_slice.ensures c.requires.place c.index-as_slice-place.is in
    (c.requires.valid.editions c.args.place row stands).rulebook

pub named_attributes-requires : goal.named_attributes-requires
named_attributes-requires c =
    let rows = rows_of c.args.tables.now in
    let row = c.index-as_slice-place.result in
    let stands = row-stands c.as_slice.ensures c.requires.place c.index-as_slice-place.is in
    rw (c.as_slice-4.ensures, c.as_slice-words.ensures)
    (folded-stand rows c.args.place row c.in_ok-rules.rules c.requires.valid stands c.in_ok-rules.ensures.rules)

pub masters_at-requires : goal.masters_at-requires
masters_at-requires c =
    let row = c.index-as_slice-place.result in
    let stands = row-stands c.as_slice.ensures c.requires.place c.index-as_slice-place.is in
    rw (c.as_slice-6.ensures, c.as_slice-5.ensures) (c.requires.valid.editions c.args.place row stands).masters

pub returns : goal.returns
returns c =
    let rows = rows_of c.args.tables.now in
    let row = c.index-as_slice-place.result in
    let stands = row-stands c.as_slice.ensures c.requires.place c.index-as_slice-place.is in
    let good = c.requires.valid.editions c.args.place row stands in
    let book = c.index-as_slice-edition.result in
    let there = row-stands c.as_slice-2.ensures good.rulebook c.index-as_slice-edition.is in
    let schema = c.index-as_slice-rulebook.result in
    let over = row-stands c.as_slice-3.ensures (c.requires.valid.rulebooks row.rulebook book there).schema
    c.index-as_slice-rulebook.is in
    let (masters, are, named) = rw (c.as_slice-6.ensures, c.as_slice-5.ensures) at c.in_ok-masters_at.ensures in
    let makings : Makings = record { edition = row; rulebook = book; schema = schema; masters = masters } in
    let rules = c.in_ok-rules.rules in
    let all : AreMakings (published_of rows) c.args.place makings rules = record {
      edition = stands;
      rulebook = there;
      schema = over;
      masters = are;
      reads = c.in_ok-rules.ensures.rules;
    } in
    sheet-found (published_of rows) c.args.place makings rules all
    ∙ rw (
      c.in_ok-copy.ensures.copied,
      c.in_ok-named_attributes.ensures,
      c.in_ok-version_of.ensures,
      c.in_ok-version_of-2.ensures,
      named,
      c.in_ok-rule_summaries.ensures,
      c.region_count.ensures.count,
      c.as_slice-4.ensures,
      c.as_slice-words.ensures,
      c.as_slice-7.ensures,
      c.as_slice-8.ensures,
    ) refl

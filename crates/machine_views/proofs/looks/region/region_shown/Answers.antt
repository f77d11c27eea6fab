use Rattle.std.proofs.Common.{◌∙◌, List, [], ap, get_or, sym}
use Rattle.std.proofs.lemmas.List.{get_or_default}
use Rattle.desk_words.specs.declared.published.RegionSheet.{RegionSheet}
use Rattle.desk_words.specs.declared.rows.edition.EditionRow.{EditionRow}
use Rattle.desk_words.specs.Tables.{published_of, rows_of}
use Rattle.machine_core.specs.Shelves.{bound_on}
use Rattle.machine_core.proofs.Rooms.{IsFullRoom-for}
use Rattle.machine_views.proofs.Books.{IsNamedBook-at}
use Rattle.machine_views.proofs.Publishing.{region-found, region-good, region-named}
use Rattle.machine_views.proofs.looks.region.region_shown.Goals as goal

pub verdicts_on-requires-clause-room : goal.verdicts_on-requires-clause-room
verdicts_on-requires-clause-room c =
    let rows = rows_of c.args.tables.now in
    IsFullRoom-for c.in_ok-hold.ensures.ready.room (IsNamedBook-at rows c.in_ok-place.place c.shelved-shelved.result.now
    c.requires.ready.valid (c.shelved-shelved.ensures.bound (published_of rows) c.in_ok-hold.ensures.ready.held)
    ).named.valid

pub verdicts_on-requires-clause-whole : goal.verdicts_on-requires-clause-whole
verdicts_on-requires-clause-whole c =
    let rows = rows_of c.args.tables.now in
    let binds = c.shelved-shelved.ensures.bound (published_of rows) c.in_ok-hold.ensures.ready.held in
    (region-good rows c.requires.ready.valid c.in_ok-place.place (bound_on c.shelved-shelved.result.now) binds
    c.args.number c.in-Some.region.now (sym (rw c.as_slice-2.ensures at c.in-Some.ensures))).rows

pub named_attributes-requires : goal.named_attributes-requires
named_attributes-requires c =
    let rows = rows_of c.args.tables.now in
    let binds = c.shelved-shelved.ensures.bound (published_of rows) c.in_ok-hold.ensures.ready.held in
    rw (c.as_slice-4.ensures, c.as_slice-words.ensures) (region-named rows c.requires.ready.valid c.in_ok-place.place
    (bound_on c.shelved-shelved.result.now) binds c.args.number c.in-Some.region.now
    (sym (rw c.as_slice-2.ensures at c.in-Some.ensures)))

pub returns-clause-region : goal.returns-clause-region
returns-clause-region c =
    let rows = rows_of c.args.tables.now in
    let place = c.in_ok-place.place in
    let binds = c.shelved-shelved.ensures.bound (published_of rows) c.in_ok-hold.ensures.ready.held in
    let bound = bound_on c.shelved-shelved.result.now in
    let region = c.in-Some.region.now in
    let there = sym (rw c.as_slice-2.ensures at c.in-Some.ensures) in
    let edition = c.index-as_slice-place.result in
    let past : EditionRow = record { name = []; version = 0; rulebook = 0; masters = []; folded = [] } in
    let stands = ap (λ (items : List EditionRow). get_or items place edition) c.as_slice-3.ensures
    ∙ get_or_default rows.editions place edition past (rw c.as_slice.ensures at c.in_ok-place.ensures.within) in
    let sheet : RegionSheet = record {
      edition = c.in_ok-copy.field-0;
      version = c.args.version;
      region = c.args.number;
      attributes = c.in_ok-named_attributes.field-0;
      rows = c.in_ok-copy-2.field-0;
      verdicts = c.in_ok-verdicts.verdicts;
    } in
    let attributes = rw (c.as_slice-words.ensures, c.as_slice-4.ensures) at c.in_ok-named_attributes.ensures in
    region-found (published_of rows) c.args.edition.now c.args.version c.args.number place region bound sheet
    (rw c.as_slice.ensures at c.in_ok-place.ensures.finds) there binds c.in_ok-verdicts.ensures.verdicts (λ i. record {
      edition = (c.in_ok-copy.ensures.copied ∙ ap (λ (one : EditionRow). one.name) stands) i;
      version = c.args.version;
      region = c.args.number;
      attributes = attributes i;
      rows = c.in_ok-copy-2.ensures.copied i;
      verdicts = c.in_ok-verdicts.verdicts;
    })

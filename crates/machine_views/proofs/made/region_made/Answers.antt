use Rattle.std.proofs.Common.{◌≡◌, take}
use Rattle.desk_words.specs.Tables.{published_of, rows_of}
use Rattle.machine_core.specs.Shelves.{bound_on}
use Rattle.machine_core.specs.Steward.AddRegion.{region_count}
use Rattle.machine_core.proofs.Rooms.{IsFullRoom-for}
use Rattle.machine_views.proofs.Books.{IsNamedBook-at}
use Rattle.machine_views.proofs.Making.{region-given}
use Rattle.machine_views.proofs.made.region_made.Goals as goal

pub row_verdicts-requires-clause-room : goal.row_verdicts-requires-clause-room
row_verdicts-requires-clause-room c =
    let rows = rows_of c.args.tables.now in
    IsFullRoom-for c.in_ok-hold.ensures.ready.room (IsNamedBook-at rows c.args.row.now.edition c.shelved.result.now
    c.requires.ready.valid (c.shelved.ensures.bound (published_of rows) c.in_ok-hold.ensures.ready.held)).named.valid

pub returns-clause-made : goal.returns-clause-made
returns-clause-made c =
    let published = published_of (rows_of c.args.tables.now) in
    let row = c.args.row.now in
    let earlier : c.region_count-earlier.result ≡ region_count (take c.args.place published.regions) row.edition =
    rw c.as_slice.ensures at c.region_count-earlier.ensures.count in
    let bound = c.shelved.ensures.bound published c.in_ok-hold.ensures.ready.held in
    region-given published c.args.place row (bound_on c.shelved.result.now) c.in_ok-verdicts.verdicts
    c.region_count-earlier.result bound c.in_ok-verdicts.ensures.verdicts earlier

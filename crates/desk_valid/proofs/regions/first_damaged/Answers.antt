use Rattle.desk_valid.specs.ReadTables.{published_in}
use Rattle.desk_valid.specs.Rows.Region.{IsRegionRow}
use Rattle.desk_valid.proofs.First.{EachAt-from_before, EachBefore-more}
use Rattle.desk_valid.proofs.regions.first_damaged.Goals as goal

pub rows-preserved : goal.rows-preserved
rows-preserved c =
    EachBefore-more (IsRegionRow (published_in c.args.read.now)) c.as_slice-row-items.ensures c.rows-test.true
    c.row-item.is c.rows.invariant c.is_region_row.ensures c.if-not-is_region_row.false

pub returns : goal.returns
returns c =
    EachAt-from_before (IsRegionRow (published_in c.args.read.now)) c.as_slice-row-items.ensures c.rows-test.false
    c.rows.invariant

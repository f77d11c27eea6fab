use Rattle.desk_valid.specs.ReadTables.{published_in}
use Rattle.desk_valid.specs.Rows.Edition.{IsEditionRow}
use Rattle.desk_valid.proofs.First.{EachAt-from_before, EachBefore-more}
use Rattle.desk_valid.proofs.editions.first_damaged.Goals as goal

pub rows-preserved : goal.rows-preserved
rows-preserved c =
    EachBefore-more (IsEditionRow (published_in c.args.read.now)) c.as_slice-row-items.ensures c.rows-test.true
    c.row-item.is c.rows.invariant c.in_ok-good.ensures c.if-not-good.false

pub returns : goal.returns
returns c =
    EachAt-from_before (IsEditionRow (published_in c.args.read.now)) c.as_slice-row-items.ensures c.rows-test.false
    c.rows.invariant

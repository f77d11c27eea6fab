use Rattle.desk_words.specs.Tables.{rows_of}
use Rattle.desk_valid.specs.Rows.Clerk.{IsClerkRow}
use Rattle.desk_valid.proofs.First.{EachAt-from_before, EachBefore-more}
use Rattle.desk_valid.proofs.clerks.first_damaged.Goals as goal

pub rows-preserved : goal.rows-preserved
rows-preserved c =
    EachBefore-more (IsClerkRow (rows_of c.args.tables.now)) c.as_slice-row-items.ensures c.rows-test.true
    c.row-item.is c.rows.invariant c.is_clerk_row.ensures c.if-not-is_clerk_row.false

pub returns : goal.returns
returns c =
    EachAt-from_before (IsClerkRow (rows_of c.args.tables.now)) c.as_slice-row-items.ensures c.rows-test.false
    c.rows.invariant

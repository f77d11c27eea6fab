use Rattle.desk_valid.specs.ReadTables.{rows_in}
use Rattle.desk_valid.specs.Valid.{IsOwnSession}
use Rattle.desk_valid.proofs.First.{EachAt-from_before, EachBefore-more}
use Rattle.desk_valid.proofs.sessions.first_of_clerk.Goals as goal

pub rows-preserved : goal.rows-preserved
rows-preserved c =
    EachBefore-more (IsOwnSession (rows_in c.args.read.now) c.args.clerk) c.own_list-row-items.ensures
    c.rows-test.true c.row-item.is c.rows.invariant c.is_session_row.ensures c.if-not-is_session_row.false

pub returns : goal.returns
returns c =
    EachAt-from_before (IsOwnSession (rows_in c.args.read.now) c.args.clerk) c.own_list-row-items.ensures
    c.rows-test.false c.rows.invariant

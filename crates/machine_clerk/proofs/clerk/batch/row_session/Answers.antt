use Rattle.std.proofs.Common.{[], slice_index_or}
use Rattle.machine_clerk.proofs.Columns.{whole-row}
use Rattle.machine_clerk.proofs.Placed.{cells-within}
use Rattle.machine_clerk.proofs.clerk.batch.row_session.Goals as goal

pub new_session-requires : goal.new_session-requires
new_session-requires c =
    let columns = c.args.heading.now.columns.now in
    let whole = whole-row columns c.args.grid.now.rows c.args.row c.requires.full c.requires.row
    c.requires.heading.whole in
    rw c.in_ok-cells.ensures (cells-within c.args.heading.now.width columns
    (slice_index_or c.args.grid.now.rows c.args.row []) whole c.requires.heading.within)

use Rattle.std.proofs.Common.{sym}
use Rattle.desk_base.proofs.Rows.{length-rows_of, All-rows_of}
use Rattle.desk_base.proofs.grid.Grid.rows.Goals as goal

pub returns-clause-rows : goal.returns-clause-rows
returns-clause-rows c =
    rw (← c.self.view_is) (sym (length-rows_of c.self.inside.width c.self.inside.count c.self.inside.cells))

pub returns-clause-full : goal.returns-clause-full
returns-clause-full c =
    rw (← c.self.view_is)
    (All-rows_of c.self.inside.width c.self.inside.count c.self.inside.cells c.self.invariant.1)

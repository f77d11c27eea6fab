use Rattle.std.proofs.Common.{◌<◌, ◌∙◌, sym, arith}
use Rattle.desk_base.proofs.Rows.{length-rows_of, cell_within, get_or-cell}
use Rattle.desk_base.proofs.grid.Grid.cell.Goals as goal

pub get-requires : goal.get-requires
get-requires c =
    let inside = c.self.inside in
    let row : c.args.row < inside.count = rw (length-rows_of inside.width inside.count inside.cells) at
    (rw (← c.self.view_is) at c.requires.row_within) in
    let column : c.args.column < inside.width = rw (← c.self.view_is) at c.requires.column_within in
    omega (arith, cell_within inside.width inside.count c.args.row c.args.column row column, c.self.invariant.1)

pub returns-clause-text : goal.returns-clause-text
returns-clause-text c =
    let inside = c.self.inside in
    let row : c.args.row < inside.count = rw (length-rows_of inside.width inside.count inside.cells) at
    (rw (← c.self.view_is) at c.requires.row_within) in
    let column : c.args.column < inside.width = rw (← c.self.view_is) at c.requires.column_within in
    rw (← c.self.view_is)
    (c.get.ensures.text
    ∙ sym (get_or-cell inside.width inside.count inside.cells c.args.row c.args.column row column))

use Rattle.std.proofs.Common.{◌-◌, ◌<◌, [], arith, get_or, length}
use Rattle.desk_words.specs.Tables.{published_of, rows_of}
use Rattle.machine_views.proofs.Publishing.{numbered-there, row-found}
use Rattle.machine_views.proofs.looks.master_row.row_shown.Goals as goal

pub returns : goal.returns
returns c =
    let sheet = c.in_ok-name.sheet in
    let number = c.args.number in
    let within : number - 1 < length sheet.grid.rows =
    omega (arith, c.if-number-eq0.false, c.if-number-rows.false, c.rows.ensures.rows) in
    record {
      row = row-found (published_of (rows_of c.args.tables.now)) c.args.master.now c.args.version number
          c.in_ok-place.place (c.in_ok-name.name, sheet) (get_or sheet.grid.rows (number - 1) []) c.in_ok-cells.cells
          (rw c.as_slice.ensures at c.in_ok-place.ensures.finds) c.in_ok-name.ensures.master
          (numbered-there sheet.grid.rows number [] c.if-number-eq0.false within) c.in_ok-cells.ensures;
    }

use Rattle.std.proofs.Common.{◌≡◌, map}
use Rattle.std.specs.List.{range_with_len}
use Rattle.desk_base.specs.Texts.{bytes_of}
use Rattle.sheet_clean.specs.Fields.{cell_shown}
use Rattle.sheet_clean.proofs.clean_row.cells_shown.Given as goal

abbrev pub invariant-columns : goal.invariant-columns
invariant-columns g l =
    let row = l.cleaner.row in
    bytes_of l.fields.items
    ≡ map (cell_shown (g.B.Book.kit l.cleaner.book.now) row.setting.now row.layout.now.header (bytes_of row.cells.now)
    l.end) (range_with_len 0 l.column)

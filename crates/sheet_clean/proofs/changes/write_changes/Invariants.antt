use Rattle.desk_base.specs.Texts.{bytes_of}
use Rattle.sheet_clean.specs.Fields.{change_line}
use Rattle.sheet_clean.proofs.Lines.{WritesBelow}
use Rattle.sheet_clean.proofs.changes.write_changes.Given as goal

abbrev pub invariant-attributes : goal.invariant-attributes
invariant-attributes g l =
    let row = l.cleaner.row in
    WritesBelow row.setting.now l.fn.writer l.writer
    (change_line (g.B.Book.kit l.cleaner.book.now) row.setting.now row.layout.now.header row.number
    (bytes_of row.cells.now) l.end)
    l.attribute l.count

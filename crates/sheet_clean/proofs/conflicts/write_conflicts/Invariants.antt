use Rattle.desk_base.specs.Texts.{bytes_of}
use Rattle.sheet_clean.specs.Fields.{conflict_line}
use Rattle.sheet_clean.proofs.Lines.{WritesBelow}
use Rattle.sheet_clean.proofs.conflicts.write_conflicts.Given as goal

abbrev pub invariant-attributes : goal.invariant-attributes
invariant-attributes g l =
    let row = l.cleaner.row in
    WritesBelow row.setting.now l.fn.writer l.writer
    (conflict_line (g.B.Book.kit l.cleaner.book.now) row.setting.now row.layout.now.header row.number
    (bytes_of row.cells.now) l.first l.second)
    l.attribute l.count

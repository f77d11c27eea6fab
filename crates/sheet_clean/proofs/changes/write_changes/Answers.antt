use Rattle.desk_base.specs.Texts.{bytes_of}
use Rattle.sheet_clean.specs.Fields.{change_line}
use Rattle.sheet_clean.proofs.Lines.{WritesBelow-next}
use Rattle.sheet_clean.proofs.changes.write_changes.Goals as goal

pub attributes-preserved : goal.attributes-preserved
attributes-preserved g c =
    let row = c.args.cleaner.now.row in
    let lines = change_line (g.B.Book.kit c.args.cleaner.now.book.now) row.setting.now row.layout.now.header row.number
    (bytes_of row.cells.now) c.args.end.now in
    WritesBelow-next row.setting.now _ _ _ lines c.attributes.attribute _ _ c.attributes.invariant
    c.in_ok-count.ensures.lines c.in_ok-count.ensures.one

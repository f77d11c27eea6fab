use Rattle.std.proofs.Common.{◌≡◌, ◌∙◌, sym, true}
use Rattle.desk_base.specs.Texts.{bytes_of}
use Rattle.fix_choices.specs.Choices.{differs}
use Rattle.sheet_clean.specs.Fields.{ends_line}
use Rattle.sheet_clean.specs.Row.{typed_at}
use Rattle.sheet_clean.proofs.Lines.{Writes-one}
use Rattle.sheet_clean.proofs.conflicts.write_ends.Goals as goal

pub returns-clause-lines : goal.returns-clause-lines
returns-clause-lines g c =
    let kit = g.B.Book.kit c.args.cleaner.now.book.now in
    let row = c.args.cleaner.now.row in
    let typed = typed_at row.setting.now row.layout.now.header (bytes_of row.cells.now) c.args.attribute in
    let line = ends_line kit row.setting.now row.number typed c.args.first.now c.args.second.now c.args.attribute in
    let differ : differs kit c.args.first.now c.args.second.now c.args.attribute ≡ true =
    sym c.differs.ensures ∙ c.if-not-differs.false in
    rw differ (Writes-one row.setting.now _ _ line (λ text has.
    rw (
      c.as_slice.ensures.value,
      c.in_ok-push_end-2.ensures,
      c.in_ok-push_end.ensures,
      c.in_ok-line.ensures,
      c.as_str.ensures.value,
      c.in_ok-digits.ensures,
    )
    at (c.in_ok-write.ensures row.setting.now text has)))

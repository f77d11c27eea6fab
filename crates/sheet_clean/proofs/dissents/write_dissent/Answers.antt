use Rattle.sheet_clean.specs.Fields.{dissent_line}
use Rattle.sheet_clean.proofs.Lines.{Writes-one}
use Rattle.sheet_clean.proofs.dissents.write_dissent.Goals as goal

pub returns : goal.returns
returns g c =
    let kit = g.B.Book.kit c.args.cleaner.now.book.now in
    let row = c.args.cleaner.now.row in
    Writes-one row.setting.now _ _ (dissent_line kit row.setting.now row.number c.args.end.now c.args.step)
    (λ text has. rw (
      c.as_bytes-text.ensures.value,
      c.as_bytes-other.ensures.value,
      c.value.ensures.text,
      c.text.ensures.text,
      c.rule_of.ensures.rule,
    )
    at (c.in_ok-write_step.ensures text has))

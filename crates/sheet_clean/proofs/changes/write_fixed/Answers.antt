use Rattle.std.proofs.Common.{◌≡◌, ◌∙◌, ap, sym, false}
use Rattle.std.specs.Str.{bytes_eq}
use Rattle.fix_model.specs.Rules.{step_text}
use Rattle.sheet_clean.specs.Fields.{fixed_line}
use Rattle.sheet_clean.proofs.Lines.{Writes-one}
use Rattle.sheet_clean.proofs.changes.write_fixed.Goals as goal

pub returns-clause-lines : goal.returns-clause-lines
returns-clause-lines g c =
    let kit = g.B.Book.kit c.args.cleaner.now.book.now in
    let row = c.args.cleaner.now.row in
    let line = fixed_line kit row.setting.now row.number c.args.attribute c.args.cell.now c.args.step in
    let fixed : c.as_bytes-fixed.result.now ≡ step_text kit c.args.step =
    c.as_bytes-fixed.ensures.value ∙ c.text.ensures.text in
    let differs : bytes_eq c.args.cell.now (step_text kit c.args.step) ≡ false =
    ap (bytes_eq c.args.cell.now) (sym fixed) ∙ sym c.are_equal.ensures ∙ c.if-are_equal.false in
    rw differs (Writes-one row.setting.now _ _ line (λ text has.
    rw fixed at (c.in_ok-write_step.ensures text has)))

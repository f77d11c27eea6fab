use Rattle.std.proofs.Common.{◌≡◌, ◌+◌, ◌++◌, ◌∷◌, [], None, Some, rules, subst, sym}
use Rattle.desk_base.specs.Texts.{bytes_of}
use Rattle.sheet_clean.specs.Row.{row_fault}
use Rattle.sheet_clean.specs.Sheets.{added}
use Rattle.sheet_clean.specs.Writing.{GivesRow}
use Rattle.sheet_filter.specs.Cleaning.{DraftsOver}
use Rattle.sheet_filter.proofs.Drafting.{DraftsOver-row}
use Rattle.sheet_filter.proofs.cleaner.Cleaner.take_row.Goals as goal

-- the row was drafted
pub returns-in-Some-plus-clause-drafted : goal.returns-in-Some-plus-clause-drafted
returns-in-Some-plus-clause-drafted g c old now records sheets drafting =
    let kit = g.B.Book.kit c.args.self.now.book.now in
    let setting = c.args.self.now.setting.now in
    let layout = c.in-Some.layout in
    let before = c.args.cleaning.now.summary in
    let cells = bytes_of c.args.cells.now in
    let is : c.args.cleaning.now.layout ≡ Some layout = c.in-Some.is in
    let number : c.in-Some-checked_add.number ≡ before.rows + 1 = search rules in
    let fits : row_fault setting layout.header (before.rows + 1) cells ≡ None = search (rules, number) in
    let gives : GivesRow kit setting layout.header (before.rows + 1) cells c.args.drafts.now
    c.write_decided.new.drafts c.in_ok-counted.counted = rw number at c.in_ok-counted.ensures.row in
    let sum : c.in-Some-plus.summary ≡ added before c.in_ok-counted.counted = search rules in
    subst (λ l. DraftsOver kit setting l c.in-Some-plus.summary c.write_decided.new.drafts old now
    (records ++ cells ∷ []) sheets) (sym is)
    (subst (λ s. DraftsOver kit setting (Some layout) s c.write_decided.new.drafts old now
    (records ++ cells ∷ []) sheets) (sym sum)
    (DraftsOver-row kit setting layout before c.in_ok-counted.counted c.args.drafts.now c.write_decided.new.drafts
    old now records sheets cells fits gives
    (subst (λ l. DraftsOver kit setting l before c.args.drafts.now old now records sheets) is drafting)))

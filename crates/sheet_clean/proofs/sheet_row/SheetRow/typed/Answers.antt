use Rattle.std.proofs.Common.{◌≡◌, ◌∙◌, ap, get_or, refl, sym}
use Rattle.std.specs.Prelude.{Some, None}
use Rattle.sheet_clean.specs.Header.{column_of}
use Rattle.sheet_clean.proofs.Laid.{column-laid}
use Rattle.sheet_clean.proofs.sheet_row.SheetRow.typed.Goals as goal

pub returns-in-Some : goal.returns-in-Some
returns-in-Some c =
    let row = c.args.self.now in
    let is : column_of row.setting.now row.layout.now.header c.args.attribute ≡ Some c.in-Some.column =
    sym (column-laid row.setting.now row.layout.now c.args.attribute _ c.requires.row.laid c.requires.within)
    ∙ ap (λ place. get_or row.layout.now.columns.items place c.index.result.now) (sym c.from.ensures)
    ∙ sym c.index.ensures ∙ c.in-Some.is in
    rw is c.cell_at.ensures

pub returns-in-None : goal.returns-in-None
returns-in-None c =
    let row = c.args.self.now in
    let is : column_of row.setting.now row.layout.now.header c.args.attribute ≡ None =
    sym (column-laid row.setting.now row.layout.now c.args.attribute _ c.requires.row.laid c.requires.within)
    ∙ ap (λ place. get_or row.layout.now.columns.items place c.index.result.now) (sym c.from.ensures)
    ∙ sym c.index.ensures ∙ c.in-None.is in
    rw is refl

use Rattle.std.proofs.Common.{◌<◌, ◌∙◌, [], false, ap, get_or, sym, take}
use Rattle.std.proofs.lemmas.List.{get_or-map}
use borrow.Author.Count.{below_more}
use Rattle.desk_base.specs.Grid.{cell_text}
use Rattle.fix_model.specs.declared.rows.SoughtText.{SoughtText}
use Rattle.fix_model.specs.Alike.{AreAlike}
use Rattle.fix_model.specs.Sought.{Aim, aim_of}
use Rattle.desk_base.proofs.Lists.{All-unmap}
use Rattle.fix_model.proofs.rows.Sought.is_alike.Goals as goal

-- what is read past the last text
abbrev nothing : SoughtText
nothing = record { column = 0; text = record { ref_ptr = (0, 0); now = [] }; folded = false }

pub cell-cell-requires-clause-column_within : goal.cell-cell-requires-clause-column_within
cell-cell-requires-clause-column_within c =
    let columns = rw (← c.self.view_is) at c.requires.columns in
    All-unmap (λ (aim : Aim). aim.column < c.args.master.now.columns) aim_of
    (take c.self.inside.count c.self.inside.texts) columns c.texts.sought-index _ c.texts-test.true

pub returns-then-not-alike : goal.returns-then-not-alike
returns-then-not-alike c = (
  λ never. absurd cc,
  λ all.
      let alike = λ (aim : Aim). AreAlike aim.folded aim.text (cell_text c.args.master.now c.args.row aim.column) in
      let each = rw (← c.self.view_is) at all in
      let here = All-unmap alike aim_of (take c.self.inside.count c.self.inside.texts) each c.texts.sought-index
      _ c.texts-test.true in
      let told = rw c.cell-cell.ensures.text at c.alike.ensures.1 in
      absurd (let e = told here in let f = c.if-not-alike.true in cc),
)

pub texts-preserved : goal.texts-preserved
texts-preserved c k d below =
    let texts = take c.self.inside.count c.self.inside.texts in
    let here = rw c.cell-cell.ensures.text at (c.alike.ensures.0 c.if-not-alike.false) in
    let item = ap (λ aims. get_or aims c.texts.sought-index d) (sym c.self.view_is)
    ∙ get_or-map aim_of texts c.texts.sought-index nothing d c.texts-test.true in
    below_more (λ n. let aim = get_or c.args.self.now n d in AreAlike aim.folded aim.text
    (cell_text c.args.master.now c.args.row aim.column)) c.texts.sought-index (λ n h. c.texts.invariant n d h)
    (rw item here) k below

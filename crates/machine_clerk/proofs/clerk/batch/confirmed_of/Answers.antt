use Rattle.std.proofs.Common.{◌≡◌, ◌∙◌, ◌<◌, ℕ, List, [], ap, arith, false, filter, length, map, slice_index_or, sym}
use Rattle.machine_core.specs.declared.column.Column.{Column}
use Rattle.machine_core.specs.Clerk.Batch.{is_confirmed}
use Rattle.machine_clerk.proofs.Columns.{filter-cells_no, filter-cells_yes, whole-row, zip-all}
use Rattle.machine_clerk.proofs.clerk.batch.confirmed_of.Goals as goal
use Rattle.machine_clerk.proofs.clerk.batch.confirmed_of.Goals.{then-is_confirmed+in_ok-push, else-is_confirmed}

-- the attribute of a cell
abbrev attribute_of : Column × List ℕ → ℕ
attribute_of cell = cell.0.attribute

pub columns-preserved : goal.columns-preserved
columns-preserved c =
    let columns = c.args.columns.now in
    let texts = slice_index_or c.args.grid.now.rows c.args.row [] in
    let whole = whole-row columns c.args.grid.now.rows c.args.row c.requires.full c.requires.row c.requires.columns in
    let none : Column = record { attribute = 0; confirms = false } in
    let column : Column = slice_index_or columns c.from.result none in
    let here : column ≡ slice_index_or columns c.columns.place none =
    ap (λ place. slice_index_or columns place none) c.from.ensures in
    let within : c.columns.place < length columns =
    omega (arith, c.columns-test.true, c.columns-place-end.ensures, c.requires.columns) in
    elim c.if-is_confirmed.branch [
      | then-is_confirmed+in_ok-push w ↦ w.confirmed-is ∙ w.in_ok-push.ensures.pushed
          ∙ filter-cells_yes columns texts whole c.columns.place column none c.cell.result.now [] within here
          c.cell.ensures.text attribute_of is_confirmed c.columns.confirmed c.columns.invariant
          (sym c.is_confirmed.ensures ∙ w.if-is_confirmed.true)
      | else-is_confirmed w ↦ w.confirmed-is
          ∙ filter-cells_no columns texts whole c.columns.place column none c.cell.result.now [] within here
          c.cell.ensures.text attribute_of is_confirmed c.columns.confirmed c.columns.invariant
          (sym c.is_confirmed.ensures ∙ w.if-is_confirmed.false)
    ]

pub returns : goal.returns
returns c =
    let texts = slice_index_or c.args.grid.now.rows c.args.row [] in
    let whole = whole-row c.args.columns.now c.args.grid.now.rows c.args.row c.requires.full c.requires.row
    c.requires.columns in
    c.columns.invariant ∙ ap (λ (cells : List (Column × List ℕ)). map attribute_of (filter is_confirmed cells))
    (zip-all c.args.columns.now texts whole c.columns.place
    (omega (arith, c.columns-test.false, c.columns-place-end.ensures, c.requires.columns)))

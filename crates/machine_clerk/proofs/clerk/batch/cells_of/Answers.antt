use Rattle.std.proofs.Common.{◌≡◌, ◌∙◌, ◌∷◌, ◌++◌, ◌<◌, ℕ, List, [], ap, arith, false, length, map, refl}
use Rattle.std.proofs.Common.{slice_index_or}
use Rattle.machine_core.specs.declared.column.Column.{Column}
use Rattle.machine_clerk.proofs.Columns.{map-cells_more, whole-row, zip-all}
use Rattle.machine_clerk.proofs.clerk.batch.cells_of.Goals as goal

-- a cell with its attribute
abbrev attributed : Column × List ℕ → ℕ × List ℕ
attributed cell = (cell.0.attribute, cell.1)

pub columns-preserved : goal.columns-preserved
columns-preserved c =
    let texts = slice_index_or c.args.grid.now.rows c.args.row [] in
    let whole = whole-row c.args.columns.now c.args.grid.now.rows c.args.row c.requires.full c.requires.row
    c.requires.columns in
    let none : Column = record { attribute = 0; confirms = false } in
    let column : Column = slice_index_or c.args.columns.now c.columns.place none in
    let attribute : c.from-in-columns.result ≡ column.attribute = c.from-in-columns.ensures
    ∙ ap (λ place. (slice_index_or c.args.columns.now place none).attribute) c.from.ensures in
    let within : c.columns.place < length c.args.columns.now =
    omega (arith, c.columns-test.true, c.columns-place-end.ensures, c.requires.columns) in
    c.in_ok-push.ensures.pushed
    ∙ ap (λ one. c.columns.cells ++ (one, c.in_ok-text.text) ∷ []) attribute
    ∙ map-cells_more c.args.columns.now texts whole c.columns.place column none c.in_ok-text.text [] within refl
    (c.in_ok-text.ensures ∙ c.cell.ensures.text) attributed c.columns.cells c.columns.invariant

pub returns : goal.returns
returns c =
    c.columns.invariant ∙ ap (map attributed) (zip-all c.args.columns.now (slice_index_or c.args.grid.now.rows c.args.row [])
    (whole-row c.args.columns.now c.args.grid.now.rows c.args.row c.requires.full c.requires.row c.requires.columns)
    c.columns.place (omega (arith, c.columns-test.false, c.columns-place-end.ensures, c.requires.columns)))

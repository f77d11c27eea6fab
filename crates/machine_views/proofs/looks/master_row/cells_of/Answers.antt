use Rattle.std.proofs.Common.{◌≡◌, ◌<◌, ◌∙◌, ◌++◌, [], ◌∷◌, ap, arith, length}
use Rattle.std.specs.Prelude.{slice_index_or, zip}
use Rattle.std.proofs.lemmas.List.{take_all}
use Rattle.std.proofs.lemmas.Slice.Zip.{length-zip}
use Rattle.machine_views.proofs.Publishing.{cells-more}
use Rattle.machine_views.proofs.looks.master_row.cells_of.Goals as goal

pub columns-preserved : goal.columns-preserved
columns-preserved c =
    let sheet = c.args.sheet.now in
    let place = c.columns.column in
    let items = c.as_slice-name-items.ensures in
    let within : place < length sheet.columns = omega (arith, c.columns-test.true, ap length items) in
    let full : length (slice_index_or sheet.grid.rows c.args.row []) ≡ length sheet.columns =
    (c.requires.sound.rows c.args.row [] c.requires.row).full in
    let within_too : place < length (slice_index_or sheet.grid.rows c.args.row []) = omega (arith, within, full) in
    let item = rw items at c.name-item.is in
    c.in_ok-push.ensures.pushed
    ∙ (λ i. c.columns.invariant i ++ (
      c.in_ok-copy.ensures.copied i,
      (c.in_ok-of.ensures ∙ c.cell.ensures.text) i,
    ) ∷ []) ∙ cells-more sheet.columns sheet.grid c.args.row place c.name-item.result within within_too item

pub returns : goal.returns
returns c =
    let sheet = c.args.sheet.now in
    let cells = slice_index_or sheet.grid.rows c.args.row [] in
    let full : length cells ≡ length sheet.columns = (c.requires.sound.rows c.args.row [] c.requires.row).full in
    c.columns.invariant ∙ take_all c.columns.column (zip sheet.columns cells) (omega (
      arith,
      c.columns-test.false,
      length-zip sheet.columns cells,
      full,
      ap length c.as_slice-name-items.ensures,
    ))

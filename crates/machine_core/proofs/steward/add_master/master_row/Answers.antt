use Rattle.std.proofs.Common.{refl, sym}
use Rattle.master_rows.specs.Sheet.{read_sheet}
use Rattle.machine_core.proofs.SheetCells.{cells-found, cells-stopped}
use Rattle.machine_core.proofs.Stopping.{EndsWith-stopped}
use Rattle.machine_core.proofs.steward.add_master.master_row.Goals as goal

pub returns-in_err-brought : goal.returns-in_err-brought
returns-in_err-brought c =
    let stops = rw c.as_slice.ensures at c.in_err-brought.ensures.finds in
    rw c.in_ok-proper_name.ensures.finds (cells-stopped (read_sheet c.args.body.now) _ c.in_err-brought.field-0.0
    c.from_residual-in_err-brought.result c.from_residual-in_err-brought.ensures.1 stops)

pub returns-in_err-within-2 : goal.returns-in_err-within-2
returns-in_err-within-2 c =
    let read = rw c.as_slice.ensures at c.in_ok-brought.ensures.finds in
    let found = cells-found (read_sheet c.args.body.now) c.in_ok-brought.brought read in
    let more = rw (c.requires.cells, sym found.2) at c.in_err-within-2.ensures.finds in
    rw (c.in_ok-proper_name.ensures.finds, found.1, c.in_ok-within.ensures.finds)
    (EndsWith-stopped _ _ c.in_err-within-2.field-0.0 c.from_residual-in_err-within-2.result
    c.from_residual-in_err-within-2.ensures.1 more)

pub returns : goal.returns
returns c =
    let read = rw c.as_slice.ensures at c.in_ok-brought.ensures.finds in
    let found = cells-found (read_sheet c.args.body.now) c.in_ok-brought.brought read in
    let cells = rw (c.requires.cells, sym found.2) at c.in_ok-within-2.ensures.finds in
    rw (
      c.in_ok-proper_name.ensures.finds,
      found.1,
      c.in_ok-within.ensures.finds,
      cells,
      c.next_version-version.ensures,
      c.as_str.ensures.text,
      c.in_ok-name_text.ensures,
      c.in_ok-copy.ensures.copied,
    ) refl

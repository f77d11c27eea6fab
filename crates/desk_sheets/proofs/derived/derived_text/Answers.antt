use Rattle.std.proofs.Common.{◌≡◌, ◌+◌, ◌++◌, [], ◌∷◌, map, take, arith}
use Rattle.std.proofs.lemmas.Grind.{common_steps}
use Rattle.std.proofs.lemmas.List.{take_all}
use Rattle.desk_sheets.specs.Derived.{fields_of, header}
use Rattle.desk_sheets.proofs.derived.derived_text.Goals as goal

-- the header is written first
pub rows-init : goal.rows-init
rows-init c = rw (c.as_slice-2.ensures.value, c.in_ok-header.ensures, c.as_slice.ensures) at c.in_ok-writer.ensures

-- then the rows in turn
pub rows-preserved : goal.rows-preserved
rows-preserved c =
    let rows = c.args.sheet.now.rows in
    let place = c.rows.row-index in
    let before = map fields_of (take place rows) in
    let next : map fields_of (take (place + 1) rows) ≡ before ++ fields_of c.row-item.result ∷ [] =
    grind (arith, common_steps) in
    rw next (c.in_ok-write_row.ensures (header c.args.sheet.now.attributes ∷ before) c.rows.invariant)

-- all were written
pub returns : goal.returns
returns c =
    let past = rw c.as_slice-row-items.ensures at c.rows-test.false in
    let all = take_all c.rows.row-index c.args.sheet.now.rows (omega (arith, past)) in
    c.finished.ensures (header c.args.sheet.now.attributes ∷ map fields_of c.args.sheet.now.rows) (rw all at c.rows.invariant)

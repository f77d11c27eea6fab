use Rattle.std.proofs.Common.{◌≡◌, ◌+◌, ◌++◌, [], ◌∷◌, map, take, arith}
use Rattle.std.proofs.lemmas.Grind.{common_steps}
use Rattle.std.proofs.lemmas.List.{take_all}
use Rattle.desk_sheets.specs.Records.{fields_of, header}
use Rattle.desk_sheets.proofs.records.records_text.Goals as goal

-- the header is written first
pub lines-init : goal.lines-init
lines-init c = rw (c.as_slice-2.ensures.value, c.in_ok-header.ensures, c.as_slice.ensures) at c.in_ok-writer.ensures

-- then the records in turn
pub lines-preserved : goal.lines-preserved
lines-preserved c =
    let lines = c.args.sheet.now.lines in
    let place = c.lines.line-index in
    let before = map fields_of (take place lines) in
    let next : map fields_of (take (place + 1) lines) ≡ before ++ fields_of c.line-item.result ∷ [] =
    grind (arith, common_steps) in
    rw next (c.in_ok-write_line.ensures (header c.args.sheet.now.attributes ∷ before) c.lines.invariant)

-- all were written
pub returns : goal.returns
returns c =
    let past = rw c.as_slice-line-items.ensures at c.lines-test.false in
    let all = take_all c.lines.line-index c.args.sheet.now.lines (omega (arith, past)) in
    c.finished.ensures (header c.args.sheet.now.attributes ∷ map fields_of c.args.sheet.now.lines) (rw all at c.lines.invariant)

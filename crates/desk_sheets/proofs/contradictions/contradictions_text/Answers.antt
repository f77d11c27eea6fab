use Rattle.std.proofs.Common.{◌≡◌, ◌+◌, ◌++◌, [], ◌∷◌, map, take, arith}
use Rattle.std.proofs.lemmas.Grind.{common_steps}
use Rattle.std.proofs.lemmas.List.{take_all}
use Rattle.desk_sheets.specs.Contradictions.{fields_of, header}
use Rattle.desk_sheets.proofs.contradictions.contradictions_text.Goals as goal

-- the header is written first
pub lines-init : goal.lines-init
lines-init c = rw (c.header.ensures) at c.in_ok-writer.ensures

-- then the lines in turn
pub lines-preserved : goal.lines-preserved
lines-preserved c =
    let sheet = c.args.sheet.now in
    let place = c.lines.line-index in
    let before = map (fields_of sheet) (take place sheet.lines) in
    let next : map (fields_of sheet) (take (place + 1) sheet.lines) ≡ before ++ fields_of sheet c.line-item.result ∷ [] =
    grind (arith, common_steps) in
    rw next (c.in_ok-write_line.ensures (header ∷ before) c.lines.invariant)

-- all were written
pub returns : goal.returns
returns c =
    let past = rw c.as_slice-line-items.ensures at c.lines-test.false in
    let all = take_all c.lines.line-index c.args.sheet.now.lines (omega (arith, past)) in
    c.finished.ensures (header ∷ map (fields_of c.args.sheet.now) c.args.sheet.now.lines) (rw all at c.lines.invariant)

use Rattle.std.proofs.Common.{◌∙◌, refl, sym, length, arith}
use Rattle.desk_base.specs.Texts.{bytes_of}
use Rattle.sheet_clean.specs.Row.{is_long}
use Rattle.sheet_clean.proofs.Places.{before-next, first-of-range, none-of-range}
use Rattle.sheet_clean.proofs.row.long_fault.Goals as goal

pub returns-then-is_long : goal.returns-then-is_long
returns-then-is_long c =
    let row = c.args.row.now in
    let test = is_long row.setting.now row.layout.now.header (bytes_of row.cells.now) in
    let count = length row.setting.now.names.attributes in
    rw (first-of-range test count c.attributes.attribute
    (omega (arith, c.attributes-test.true, c.len-count.ensures)) c.attributes.invariant
    (sym c.is_long.ensures ∙ c.if-is_long.true)) (rw c.from.ensures refl)

pub attributes-preserved : goal.attributes-preserved
attributes-preserved c =
    let row = c.args.row.now in
    let test = is_long row.setting.now row.layout.now.header (bytes_of row.cells.now) in
    before-next test c.attributes.attribute c.attributes.invariant (sym c.is_long.ensures ∙ c.if-is_long.false)

pub returns : goal.returns
returns c =
    let row = c.args.row.now in
    let test = is_long row.setting.now row.layout.now.header (bytes_of row.cells.now) in
    rw (none-of-range test (length row.setting.now.names.attributes) (λ before less.
    c.attributes.invariant before (omega (arith, less, c.attributes-test.false, c.len-count.ensures)))) refl

use Rattle.std.proofs.Common.{◌∙◌, refl, sym, length, arith}
use Rattle.sheet_clean.specs.Header.{lacks_column}
use Rattle.sheet_clean.proofs.Places.{before-next, first-of-range, none-of-range}
use Rattle.sheet_clean.proofs.header.known_fault.Goals as goal

pub returns-then-lacks_column : goal.returns-then-lacks_column
returns-then-lacks_column c =
    let test = lacks_column c.args.setting.now c.args.header.now in
    let count = length c.args.setting.now.names.attributes in
    rw (first-of-range test count c.attributes.attribute
    (omega (arith, c.attributes-test.true, c.len-count.ensures)) c.attributes.invariant
    (sym c.lacks_column.ensures ∙ c.if-lacks_column.true)) refl

pub attributes-preserved : goal.attributes-preserved
attributes-preserved c =
    let test = lacks_column c.args.setting.now c.args.header.now in
    before-next test c.attributes.attribute c.attributes.invariant
    (sym c.lacks_column.ensures ∙ c.if-lacks_column.false)

pub returns : goal.returns
returns c =
    let test = lacks_column c.args.setting.now c.args.header.now in
    rw (none-of-range test (length c.args.setting.now.names.attributes) (λ before less.
    c.attributes.invariant before (omega (arith, less, c.attributes-test.false, c.len-count.ensures)))) refl

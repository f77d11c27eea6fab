use Rattle.std.proofs.Common.{◌∙◌}
use Rattle.machine_core.proofs.FullRows.{rows-none, rows-step}
use Rattle.machine_core.proofs.steward.add_region.full_rows.Goals as goal

pub rows-init : goal.rows-init
rows-init c = rows-none c.args.attributes.now c.args.rows.now c.new-full.result c.new-full.ensures

pub rows-preserved : goal.rows-preserved
rows-preserved c =
    let finds = rw c.as_slice.ensures at c.in_ok-full_row.ensures in
    c.rows.invariant ∙ rows-step c.args.attributes.now c.args.rows.now c.rows.place c.index-rows-place.result
    c.rows.full
    c.push.new.self c.in_ok-full_row.field-0 c.rows-test.true c.index-rows-place.is finds c.in_ok-push.ensures.pushed

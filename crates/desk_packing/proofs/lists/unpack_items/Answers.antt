use Rattle.std.proofs.Common.{◌∙◌}
use Rattle.desk_packing.proofs.Items.{items_in-next}
use Rattle.desk_packing.proofs.lists.unpack_items.Goals as goal

pub items-preserved : goal.items-preserved
items-preserved g c = rw c.in_ok-push.ensures.pushed (items_in-next g.T.Packs.format c.args.count c.items._item
    c.items.items c.in_ok-item.item c.items.left.now c.in_ok-item.rest.now c.items-test.true
    c.in_ok-item.ensures.read ∙ c.items.invariant)

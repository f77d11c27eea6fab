use Rattle.std.proofs.Common.{◌≡◌, ◌-◌}
use Rattle.desk_packing.specs.Formats.{items_in}
use Rattle.desk_packing.proofs.Items.{following}
use Rattle.desk_packing.proofs.lists.unpack_items.Given as goal

abbrev pub invariant-items : goal.invariant-items
invariant-items g l =
    following l.items (items_in g.T.Packs.format (l.count - l._item) l.left)
    ≡ items_in g.T.Packs.format l.count l.bytes

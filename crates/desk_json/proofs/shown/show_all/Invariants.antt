use Rattle.std.proofs.Common.{◌≡◌, map, drop}
use Rattle.serde_json.specs.View.{items_of}
use Rattle.json_parts.specs.Shapes.{list_of}
use Rattle.json_parts.specs.Writing.{with_items, with_value}
use Rattle.desk_json.proofs.shown.show_all.Given as goal

abbrev pub invariant-items : goal.invariant-items
invariant-items g l = with_items l.out (items_of (map g.T.Show.shown (drop l.item-index l.items)))
    ≡ with_value l.fn.out (list_of (map g.T.Show.shown l.items))

use Rattle.std.proofs.Common.{◌≡◌, ◌++◌, take}
use Rattle.std.specs.Prelude.{flat_map}
use Rattle.std.specs.List.{AllByRecursion}
use Rattle.desk_packing.proofs.lists.pack_items.Given as goal

abbrev pub invariant-items : goal.invariant-items
invariant-items g l = record {
  packed : l.bytes.items ≡ l.initial.bytes.items ++ flat_map g.T.Packs.format.print (take l.item-index l.items);
  fit : AllByRecursion g.T.Packs.format.Fits (take l.item-index l.items);
}

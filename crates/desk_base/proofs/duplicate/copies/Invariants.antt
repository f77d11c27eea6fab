use Rattle.std.proofs.Common.{◌≡◌, take}
use Rattle.desk_base.proofs.duplicate.copies.Given as goal

abbrev pub invariant-items : goal.invariant-items
invariant-items g l = l.made.items ≡ take l.item-index l.items

use Rattle.std.proofs.Common.{◌≡◌, length, map, take}
use Rattle.desk_words.specs.Tables.{items_of}
use Rattle.desk_packing.proofs.shape.lengths.Given as goal

abbrev pub invariant-lists : goal.invariant-lists
invariant-lists g l = l.counts ≡ map length (map items_of (take l.list-index l.list-items))

use Rattle.std.proofs.Common.{◌≡◌, map}
use Rattle.std.specs.List.{range_with_len}
use Rattle.desk_made.specs.Schema.{attribute}
use Rattle.desk_made.proofs.schema.big.Given as goal

abbrev pub invariant-places : goal.invariant-places
invariant-places l = l.attributes ≡ map attribute (range_with_len 1 l.place)

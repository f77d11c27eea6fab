use Rattle.std.proofs.Common.{◌≡◌, length}
use Rattle.desk_base.specs.Places.{flags_of}
use Rattle.desk_base.proofs.places.flags_of.Given as goal

abbrev pub invariant-places : goal.invariant-places
invariant-places l = record {
  flags : l.flags ≡ flags_of l.place l.places;
  count : length l.flags ≡ l.place;
}

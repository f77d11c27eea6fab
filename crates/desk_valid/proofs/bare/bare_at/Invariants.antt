use Rattle.std.proofs.Common.{◌≡◌, Some, take}
use Rattle.desk_valid.specs.Bare.{bare_at}
use Rattle.desk_valid.specs.ReadTables.{published_in}
use Rattle.desk_valid.proofs.bare.bare_at.Given as goal

-- those so far read
abbrev pub invariant-places : goal.invariant-places
invariant-places l = bare_at (published_in l.read) (take l.place-index l.places) ≡ Some l.bare

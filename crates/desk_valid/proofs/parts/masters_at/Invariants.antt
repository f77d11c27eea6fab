use Rattle.std.proofs.Common.{◌≡◌, Some, map, take}
use Rattle.desk_words.specs.Tables.{published_of, rows_of}
use Rattle.desk_valid.specs.Readings.{all_of, master_at}
use Rattle.desk_valid.proofs.parts.masters_at.Given as goal

-- those so far read
abbrev pub invariant-places : goal.invariant-places
invariant-places l =
    all_of (map (master_at (published_of (rows_of l.tables))) (take l.place-index l.places)) ≡ Some l.masters

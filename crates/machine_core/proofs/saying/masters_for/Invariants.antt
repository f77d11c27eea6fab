use Rattle.std.proofs.Common.{◌≡◌, Some, map, take}
use Rattle.desk_words.specs.Tables.{published_of, rows_of}
use Rattle.desk_valid.specs.Readings.{all_of}
use Rattle.machine_core.specs.Says.{master_for}
use Rattle.machine_core.proofs.saying.masters_for.Given as goal

-- those so far are there
abbrev pub invariant-masters : goal.invariant-masters
invariant-masters l =
    all_of (map (master_for (published_of (rows_of l.tables))) (take l.master-index l.masters)) ≡ Some l.found

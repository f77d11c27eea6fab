use Rattle.std.proofs.Common.{◌≡◌, length, map, take}
use Rattle.std.specs.Prelude.{filter, zip}
use Rattle.std.specs.List.{range_with_len}
use Rattle.machine_core.specs.Look.Records.{is_on, record_line}
use Rattle.machine_views.proofs.looks.records.lines_on.Given as goal

-- the records so far that are on the edition have their lines
abbrev pub invariant-records : goal.invariant-records
invariant-records l =
    l.lines ≡ map record_line (filter (is_on l.own l.edition)
    (take l.place (zip (range_with_len 1 (length l.own.records)) l.own.records)))

use Rattle.std.proofs.Common.{◌≡◌, map, take}
use Rattle.desk_words.specs.Tables.{published_of, rows_of}
use Rattle.desk_valid.specs.Readings.{rules_in}
use Rattle.desk_valid.proofs.read_tables.all_rules.Given as goal

abbrev pub invariant-rows : goal.invariant-rows
invariant-rows l =
    l.rules ≡ map (rules_in (published_of (rows_of l.tables))) (take l.row-index l.tables.rulebooks.items)

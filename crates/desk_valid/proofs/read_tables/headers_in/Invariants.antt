use Rattle.std.proofs.Common.{◌≡◌, map, take}
use Rattle.desk_valid.specs.ReadTables.{header_in}
use Rattle.desk_valid.proofs.read_tables.headers_in.Given as goal

abbrev pub invariant-rows : goal.invariant-rows
invariant-rows l = l.headers ≡ map header_in (take l.row-index l.rows)

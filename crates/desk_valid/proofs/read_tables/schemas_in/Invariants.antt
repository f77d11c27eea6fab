use Rattle.std.proofs.Common.{◌≡◌, map, take}
use Rattle.desk_valid.specs.Readings.{schema_in}
use Rattle.desk_valid.proofs.read_tables.schemas_in.Given as goal

abbrev pub invariant-rows : goal.invariant-rows
invariant-rows l = l.schemas ≡ map schema_in (take l.row-index l.rows)

use Rattle.std.proofs.Common.{◌≡◌, map, take}
use Rattle.desk_base.specs.Places.{place_of}
use Rattle.sheet_clean.proofs.layout.columns_of.Given as goal

abbrev pub invariant-attributes : goal.invariant-attributes
invariant-attributes l = l.columns.items ≡ map (place_of l.header) (take l.name-index l.setting.names.attributes)

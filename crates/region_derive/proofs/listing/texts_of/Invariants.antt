use Rattle.std.proofs.Common.{◌≡◌, map, take}
use Rattle.desk_base.specs.Grid.{cell_text}
use Rattle.region_derive.proofs.listing.texts_of.Given as goal

abbrev pub invariant-columns : goal.invariant-columns
invariant-columns l = l.texts ≡ map (cell_text l.grid l.row) (take l.column-index l.columns)

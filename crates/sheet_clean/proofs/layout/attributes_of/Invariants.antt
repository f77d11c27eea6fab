use Rattle.std.proofs.Common.{◌≡◌, map, take}
use Rattle.sheet_clean.specs.Header.{attribute_of}
use Rattle.sheet_clean.proofs.layout.attributes_of.Given as goal

abbrev pub invariant-columns : goal.invariant-columns
invariant-columns l = l.attributes.items ≡ map (attribute_of l.setting) (take l.column-index l.header)

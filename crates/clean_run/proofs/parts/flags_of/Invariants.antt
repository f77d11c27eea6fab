use Rattle.std.proofs.Common.{◌≡◌, map, take}
use Rattle.clean_run.specs.Parts.{is_named}
use Rattle.clean_run.proofs.parts.flags_of.Given as goal

abbrev pub invariant-attributes : goal.invariant-attributes
invariant-attributes l = l.flags ≡ map (is_named l.names) (take l.attribute-index l.attributes)

use Rattle.std.proofs.Common.{◌≡◌, map, take}
use Rattle.fix_model.specs.States.{is_covering}
use Rattle.region_suggest.proofs.gaining.covered.Given as goal

-- the cells so far have their flags
abbrev pub invariant-attributes : goal.invariant-attributes
invariant-attributes g l = l.flags.items ≡ map is_covering (take l.attribute l.state.cells)

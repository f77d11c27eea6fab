use Rattle.std.proofs.Common.{◌≡◌, [], map, replicate}
use Rattle.std.specs.Prelude.{vec_items}
use Rattle.region_suggest.proofs.dependencies.Dependencies.new.Given as goal

-- no attribute so far is used
abbrev pub invariant-attributes : goal.invariant-attributes
invariant-attributes l = map vec_items l.uses.items ≡ replicate l.counter []

use Rattle.std.proofs.Common.{◌<◌, ℕ}
use Rattle.fix_model.specs.States.{IsCovered}
use Rattle.fix_engine.proofs.search.covers_all.Given as goal

abbrev pub invariant-attributes : goal.invariant-attributes
invariant-attributes g l = (attribute : ℕ) → attribute < l.attribute → IsCovered l.state attribute

use Rattle.std.proofs.Common.{◌≡◌, length, map, take}
use Rattle.region_suggest.specs.Dependencies.{uses_of, with_uses}
use Rattle.region_suggest.proofs.dependencies.Dependencies.add_conds.Given as goal

-- the dependency is added for the conditions so far
abbrev pub invariant-conds : goal.invariant-conds
invariant-conds l = record {
  uses : uses_of l.self ≡ with_uses l.dependency (map (λ cond. cond.0) (take l.cond-index l.conds)) (uses_of l.fn.self);
  width : length l.self.uses.items ≡ length l.fn.self.uses.items;
  sizes : l.self.sizes ≡ l.fn.self.sizes;
  heads : l.self.heads ≡ l.fn.self.heads;
}

use Rattle.std.proofs.Common.{◌≡◌, length, map, take}
use Rattle.region_suggest.specs.Dependencies.{uses_of, with_uses}
use Rattle.region_suggest.proofs.dependencies.Dependencies.add_keys.Given as goal

-- the dependency is added for the keys so far
abbrev pub invariant-keys : goal.invariant-keys
invariant-keys l = record {
  uses : uses_of l.self ≡ with_uses l.dependency (map (λ key. key.0) (take l.key-index l.keys)) (uses_of l.fn.self);
  width : length l.self.uses.items ≡ length l.fn.self.uses.items;
  sizes : l.self.sizes ≡ l.fn.self.sizes;
  heads : l.self.heads ≡ l.fn.self.heads;
}

use Rattle.std.proofs.Common.{◌∙◌, ℕ}
use Rattle.std.proofs.lemmas.List.{get_or_default}
use Rattle.region_suggest.specs.Dependencies.{uses_of}
use Rattle.region_suggest.proofs.LeftSides.{with_uses-next}
use Rattle.region_suggest.proofs.dependencies.Dependencies.add_keys.Goals as goal

pub keys-preserved : goal.keys-preserved
keys-preserved c = let before = c.keys.invariant in
    let made = c.add_use.ensures in
    record {
      uses = with_uses-next c.args.dependency (λ (key : ℕ × ℕ). key.0) c.args.keys.now c.keys.key-index _
          (uses_of c.args.self.now) (uses_of c.keys.self) (uses_of c.add_use.new.self) c.keys-test.true
          (get_or_default c.args.keys.now c.keys.key-index _ _ c.keys-test.true) before.uses
          c.in_ok-add_use.ensures.uses;
      width = made.width ∙ before.width;
      sizes = made.sizes ∙ before.sizes;
      heads = made.heads ∙ before.heads;
    }

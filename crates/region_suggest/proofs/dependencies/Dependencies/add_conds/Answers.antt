use Rattle.std.proofs.Common.{◌∙◌, ℕ}
use Rattle.fix_model.specs.declared.pattern.Pat.{Pat}
use Rattle.region_suggest.specs.Dependencies.{uses_of}
use Rattle.region_suggest.proofs.LeftSides.{with_uses-next}
use Rattle.region_suggest.proofs.dependencies.Dependencies.add_conds.Goals as goal

pub conds-preserved : goal.conds-preserved
conds-preserved c = let before = c.conds.invariant in
    let made = c.add_use.ensures in
    record {
      uses = with_uses-next c.args.dependency (λ (cond : ℕ × Pat). cond.0) c.args.conds.now c.conds.cond-index
          c.cond-item.result
          (uses_of c.args.self.now) (uses_of c.conds.self) (uses_of c.add_use.new.self) c.conds-test.true c.cond-item.is
          before.uses c.in_ok-add_use.ensures.uses;
      width = made.width ∙ before.width;
      sizes = made.sizes ∙ before.sizes;
      heads = made.heads ∙ before.heads;
    }

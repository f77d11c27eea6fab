use Rattle.std.proofs.Common.{◌≡◌, ◌∙◌, ◌+◌, ◌++◌, ◌∷◌, [], ℕ, List, Vec, Global, ap, sym, map, length-append, arith}
use Rattle.std.proofs.lemmas.List.{length-map}
use Rattle.fix_model.specs.declared.pattern.Pat.{Pat}
use Rattle.region_suggest.specs.Dependencies.{uses_of, with_uses}
use Rattle.region_suggest.proofs.LeftSides.{with_uses-both}
use Rattle.region_suggest.proofs.dependencies.Dependencies.add.Goals as goal

pub returns : goal.returns
returns c = let rule = c.args.rule.now in
    let keys : List ℕ = map (λ (key : ℕ × ℕ). key.0) rule.keys in
    let conds : List ℕ = map (λ (cond : ℕ × Pat). cond.0) rule.conds in
    let old = c.args.self.now in
    let conds_used : uses_of c.add_conds.new.self ≡ with_uses c.len-dependency.result conds
    (uses_of c.add_keys.new.self) = rw c.as_slice-2.ensures at c.in_ok-add_conds.ensures.uses in
    let keys_used : uses_of c.add_keys.new.self ≡ with_uses c.len-dependency.result keys (uses_of old) =
    rw c.as_slice.ensures at c.in_ok-add_keys.ensures.uses in
    record {
      heads = c.in_ok-push-2.ensures.items
          ∙ ap (λ (heads : Vec ℕ Global). heads.items ++ rule.head ∷ [])
          (c.in_ok-add_conds.ensures.heads ∙ c.in_ok-add_keys.ensures.heads);
      sizes = c.in_ok-push.ensures.items
          ∙ ap (λ (sizes : Vec ℕ Global). sizes.items ++ (c.len.result + c.len-2.result) ∷ [])
          (c.in_ok-add_conds.ensures.sizes ∙ c.in_ok-add_keys.ensures.sizes)
          ∙ ap (λ size. old.sizes.items ++ size ∷ [])
          (omega (
            arith,
            c.len.ensures,
            c.len-2.ensures,
            length-append keys conds,
            length-map rule.keys (λ (key : ℕ × ℕ). key.0),
            length-map rule.conds (λ (cond : ℕ × Pat). cond.0),
          ));
      uses = conds_used ∙ ap (with_uses c.len-dependency.result conds) keys_used
          ∙ sym (with_uses-both c.len-dependency.result keys conds (uses_of old))
          ∙ ap (λ n. with_uses n (keys ++ conds) (uses_of old))
          (omega (arith, c.len-dependency.ensures, old.heads.ok.0));
    }

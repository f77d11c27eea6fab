use Rattle.std.proofs.Common.{◌≡◌, ◌<◌, ◌∙◌, true, length, get_or, arith, sym, ap}
use Rattle.std.proofs.lemmas.List.{get_or_default}
use borrow.Author.Count.{below_more}
use Rattle.fix_model.specs.Entries.{is_same_key}
use Rattle.fix_model.proofs.Twins.{pointwise-all, pointwise-fails}
use Rattle.fix_model.proofs.kit.Kit.has_same_keys.Goals as goal
use Rattle.fix_model.proofs.kit.Kit.has_same_keys.Goals.{After-as_slice-key-items}

-- the rules have as many keys
length-keys : (c : After-as_slice-key-items) → length c.args.rule.now.keys ≡ length c.args.other.now.keys
length-keys c = sym c.len.ensures ∙ c.if-len-others.false ∙ ap length c.as_slice-others.ensures

pub returns-then-not-is_same_key : goal.returns-then-not-is_same_key
returns-then-not-is_same_key c =
    let even = length-keys (goal.at.returns-then-not-is_same_key c).After-as_slice-key-items in
    let inside : c.keys.place < length c.args.rule.now.keys = rw c.as_slice-key-items.ensures at c.keys-test.true in
    let differs = rw (c.as_slice-key-items.ensures, c.as_slice-others.ensures)
    at (sym c.is_same_key.ensures ∙ c.if-not-is_same_key.true) in
    sym (pointwise-fails (is_same_key c.args.self.now) c.args.rule.now.keys c.args.other.now.keys c.keys.place (0, 0)
    (0, 0) inside (omega arith) differs)

pub keys-preserved : goal.keys-preserved
keys-preserved c k d e below =
    let keys = c.args.rule.now.keys in
    let others = c.args.other.now.keys in
    let even = length-keys (goal.at.keys-preserved c).After-as_slice-key-items in
    let inside : c.keys.place < length keys = rw c.as_slice-key-items.ensures at c.keys-test.true in
    let there : c.keys.place < length others = omega arith in
    let same = rw (
      c.as_slice-key-items.ensures,
      c.as_slice-others.ensures,
      get_or_default keys c.keys.place (0, 0) d
          inside,
      get_or_default others c.keys.place (0, 0) e there,
    )
    at (sym c.is_same_key.ensures ∙ c.if-not-is_same_key.false) in
    below_more (λ n. is_same_key c.args.self.now (get_or keys n d) (get_or others n e) ≡ true) c.keys.place
    (λ n h. c.keys.invariant n d e h) same k below

pub returns : goal.returns
returns c = sym (pointwise-all (is_same_key c.args.self.now) c.args.rule.now.keys c.args.other.now.keys
    (length-keys (goal.at.returns c).After-as_slice-key-items)
    (λ k d e h. c.keys.invariant k d e (omega (arith, ap length c.as_slice-key-items.ensures))))

use Rattle.std.proofs.Common.{◌∙◌}
use Rattle.fix_model.proofs.LeftSides.{covers_left_side-conds, covers_left_side-no_keys}
use Rattle.fix_model.proofs.book.covers_left_side.Goals as goal

pub returns-then-has_covered_keys : goal.returns-then-has_covered_keys
returns-then-has_covered_keys c = covers_left_side-conds c.args.state.now c.args.rule.now c.has_covered_conds.result
    (c.has_covered_keys.ensures.0 c.if-has_covered_keys.true) c.has_covered_conds.ensures

pub returns-else-has_covered_keys : goal.returns-else-has_covered_keys
returns-else-has_covered_keys c = c.if-has_covered_keys.false
    ∙ covers_left_side-no_keys c.args.state.now c.args.rule.now
    (λ all. let passes = c.has_covered_keys.ensures.1 all in let fails = c.if-has_covered_keys.false in cc)

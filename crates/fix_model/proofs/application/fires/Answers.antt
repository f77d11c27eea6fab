use Rattle.std.proofs.Common.{arith, ◌≡◌}
use Rattle.fix_model.proofs.Hits.{covered_keys-all}
use Rattle.fix_model.specs.Rules.{rule_at}
use Rattle.fix_model.proofs.application.fires.Goals as goal

pub returns-then-enabled : goal.returns-then-enabled
returns-then-enabled c =
    let is : c.rule-rule.result.now ≡ rule_at c.args.kit.now c.args.step.rule = c.rule-rule.ensures.rule in
    let enabled = rw c.lend.ensures at (c.enabled.ensures.0 c.if-enabled.true) in
    let keys = covered_keys-all c.args.state.now c.rule-rule.result.now enabled.keys in (
      λ told. record {
        rule_within = omega (arith, c.from.ensures, c.len.ensures, c.if-from-len.false);
        enabled = rw is at enabled;
        uncovered = rw (← is) (λ covered. let heard = c.covers.ensures.1 covered in cc);
        agrees = rw is at (rw keys at (c.agrees_where_covered.ensures.0 told));
      },
      λ fires. c.agrees_where_covered.ensures.1 (rw keys (rw is fires.agrees)),
    )

use Rattle.std.proofs.Common.{arith, below_more}
use Rattle.fix_model.specs.Rules.{rule_at}
use Rattle.fix_model.specs.Waits.{IsApart}
use Rattle.fix_model.proofs.waiting.first_waiting.Goals as goal

pub rules-init : goal.rules-init
rules-init c = record { apart = λ earlier within. absurd (omega (arith, within)) }

pub rules-preserved : goal.rules-preserved
rules-preserved c = record {
  apart = below_more (λ earlier. IsApart c.args.attribute (rule_at c.args.kit.now earlier)) c.rules.rule
      c.rules.invariant.apart (rw (← c.rule.ensures.rule) (c.is_apart.ensures c.if-not-is_apart.false));
}

pub returns : goal.returns
returns c = record {
  apart = λ earlier within. c.rules.invariant.apart earlier (omega (arith, within, c.rules-test.false));
}

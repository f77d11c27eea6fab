use Rattle.std.proofs.Common.{◌≤◌, ◌∙◌, length, arith, sym}
use Rattle.fix_model.specs.Entries.{has_same_triple}
use Rattle.fix_model.specs.Rules.{rule_at}
use Rattle.fix_model.proofs.Twins.{position-none, position-some}
use Rattle.fix_model.proofs.kit.Kit.earlier_twin.Goals as goal

pub returns-then-has_same_triple : goal.returns-then-has_same_triple
returns-then-has_same_triple c =
    let within : c.args.place ≤ length c.args.self.now.rules = omega arith in
    sym (position-some (has_same_triple c.args.self.now (rule_at c.args.self.now c.args.place)) c.args.self.now.rules
    c.args.place c.rules.earlier _ within c.rules-test.true c.rules.invariant
    (rw (c.rule.ensures.rule, c.rule-rule.ensures.rule) at (sym c.has_same_triple.ensures ∙
    c.if-has_same_triple.true)))

pub returns : goal.returns
returns c =
    let within : c.args.place ≤ length c.args.self.now.rules = omega arith in
    sym (position-none (has_same_triple c.args.self.now (rule_at c.args.self.now c.args.place)) c.args.self.now.rules
    c.args.place _ within (λ k h. c.rules.invariant k (omega arith)))

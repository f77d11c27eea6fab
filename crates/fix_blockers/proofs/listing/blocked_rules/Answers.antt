use Rattle.std.proofs.Common.{◌≡◌, ◌∙◌, ℕ, ap, sym, refl, arith, length, filter}
use Rattle.std.specs.List.{range_with_len}
use Rattle.std.specs.Prelude.{◌==◌}
use Rattle.std.proofs.lemmas.Bool.{eq-eqb, ne_eqb}
use Rattle.fix_model.specs.declared.rule.Rule.{Rule}
use Rattle.fix_model.specs.Rules.{rule_at}
use Rattle.fix_blockers.specs.declared.blocked_attribute.BlockedRule.{BlockedRule}
use Rattle.fix_blockers.specs.Blockers.{IsBlocker}
use Rattle.fix_blockers.proofs.Listed.{ListsBelow-fails, ListsBelow-passes}
use Rattle.fix_blockers.proofs.listing.blocked_rules.Goals as goal
use Rattle.fix_blockers.proofs.listing.blocked_rules.Goals.{then-rule_at-attribute+in_ok-blocker+in_ok-push}
use Rattle.fix_blockers.proofs.listing.blocked_rules.Goals.{else-rule_at-attribute}

pub rules-preserved : goal.rules-preserved
rules-preserved g c =
    let kit = g.B.Book.kit c.args.book.now in
    let state = c.args.state.now in
    let attribute : ℕ = c.args.attribute in
    let rule : ℕ = c.rules.rule in
    let number = λ (one : BlockedRule). one.rule in
    let test = λ (rule : ℕ). (rule_at kit rule).head == attribute in
    let P = λ (one : BlockedRule). IsBlocker kit state (rule_at kit one.rule) one.blocker in
    let head : c.rule_at.result.now.head ≡ (rule_at kit rule).head =
    ap (λ (one : Rule). one.head) c.rule_at.ensures.rule in
    elim c.if-rule_at-attribute.branch [
      | then-rule_at-attribute+in_ok-blocker+in_ok-push w ↦ ListsBelow-passes number test P rule c.rules.rules
          c.rules.invariant (eq-eqb (rule_at kit rule).head attribute (sym head ∙ w.if-rule_at-attribute.true))
          (record { rule = rule; blocker = w.in_ok-blocker.blocker }) refl w.in_ok-blocker.ensures
          c.if-rule_at-attribute.rules (w.rules-is ∙ w.in_ok-push.ensures.pushed)
      | else-rule_at-attribute w ↦ ListsBelow-fails number test P rule c.rules.rules c.rules.invariant
          (ne_eqb (rule_at kit rule).head attribute (λ is. w.if-rule_at-attribute.false (head ∙ is)))
          c.if-rule_at-attribute.rules w.rules-is
    ]

pub returns : goal.returns
returns g c =
    let kit = g.B.Book.kit c.args.book.now in
    let attribute : ℕ = c.args.attribute in
    let last : c.rules.rule ≡ length kit.rules =
    omega (arith, c.rules-test.false, c.rules.auto.rule-end, ap length c.rules-2.ensures.rules) in
    record {
      which = c.rules.invariant.which ∙ ap (λ (bound : ℕ). filter (λ (rule : ℕ). (rule_at kit rule).head == attribute)
          (range_with_len 0 bound)) last;
      blockers = c.rules.invariant.each;
    }

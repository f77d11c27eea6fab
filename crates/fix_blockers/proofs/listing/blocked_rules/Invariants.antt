use Rattle.std.specs.Prelude.{◌==◌}
use Rattle.fix_model.specs.Rules.{rule_at}
use Rattle.fix_blockers.specs.Blockers.{IsBlocker}
use Rattle.fix_blockers.proofs.Listed.{ListsBelow}
use Rattle.fix_blockers.proofs.listing.blocked_rules.Given as goal

-- the rules so far whose head the attribute is are listed
abbrev pub invariant-rules : goal.invariant-rules
invariant-rules g l = let kit = g.B.Book.kit l.book in
    ListsBelow (λ one. one.rule) (λ rule. (rule_at kit rule).head == l.attribute)
    (λ one. IsBlocker kit l.state (rule_at kit one.rule) one.blocker) l.rule l.rules

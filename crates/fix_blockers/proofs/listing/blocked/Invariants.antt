use Rattle.fix_blockers.specs.Blocked.{AreBlockedRules}
use Rattle.fix_blockers.specs.Blockers.{is_uncovered}
use Rattle.fix_blockers.proofs.Listed.{ListsBelow}
use Rattle.fix_blockers.proofs.listing.blocked.Given as goal

-- the attributes so far that are not covered are listed
abbrev pub invariant-attributes : goal.invariant-attributes
invariant-attributes g l = ListsBelow (λ one. one.attribute) (is_uncovered l.state)
    (λ one. AreBlockedRules (g.B.Book.kit l.book) l.state one.attribute one.rules) l.attribute l.blocked

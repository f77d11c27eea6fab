use Rattle.std.proofs.Common.{◌<◌, ℕ, get_or}
use Rattle.fix_model.specs.declared.pattern.Pat.{Pat}
use Rattle.fix_blockers.specs.Blockers.{IsMet}
use Rattle.fix_blockers.proofs.blocking.first_unmet.Given as goal

-- the conditions so far match
abbrev pub invariant-conds : goal.invariant-conds
invariant-conds g l = (k : ℕ) (d : ℕ × Pat) → k < l.cond-index
    → IsMet (g.B.Book.kit l.book) l.state (get_or l.rule.conds k d)

use Rattle.std.proofs.Common.{◌<◌, ℕ, get_or}
use Rattle.fix_model.specs.declared.pattern.Pat.{Pat}
use Rattle.fix_model.specs.Pattern.{Matches}
use Rattle.fix_model.specs.Rules.{is_folded}
use Rattle.fix_model.specs.States.{value_at}
use Rattle.fix_model.proofs.book.are_matched.Given as goal

abbrev pub invariant-conds : goal.invariant-conds
invariant-conds g l = (k : ℕ) (d : ℕ × Pat) → k < l.cond-index
    → let cond = get_or l.rule.conds k d in Matches (is_folded (g.B.Book.kit l.book) cond.0) cond.1
    (value_at (g.B.Book.kit l.book) l.state cond.0)

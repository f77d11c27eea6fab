use Rattle.std.proofs.Common.{◌<◌, ℕ, get_or}
use Rattle.fix_model.specs.declared.pattern.Pat.{Pat}
use Rattle.fix_model.specs.Pattern.{Matches}
use Rattle.fix_model.specs.Rules.{is_folded}
use Rattle.fix_model.specs.States.{IsCovered, value_at}
use Rattle.region_suggest.proofs.opening.is_matched_where_covered.Given as goal

-- the conditions so far match where they are covered
abbrev pub invariant-conds : goal.invariant-conds
invariant-conds g l =
    (k : ℕ) (d : ℕ × Pat) → k < l.cond-index → IsCovered l.state (get_or l.rule.conds k d).0
    → Matches (is_folded (g.B.Book.kit l.book) (get_or l.rule.conds k d).0) (get_or l.rule.conds k d).1
    (value_at (g.B.Book.kit l.book) l.state (get_or l.rule.conds k d).0)

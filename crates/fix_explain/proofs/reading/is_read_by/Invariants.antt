use Rattle.std.proofs.Common.{◌<◌, ℕ, get_or}
use Rattle.fix_model.specs.Rules.{rule_at}
use Rattle.fix_explain.specs.Uses.{Reads}
use Rattle.fix_explain.proofs.reading.is_read_by.Given as goal

-- no step so far reads the attribute
abbrev pub invariant-steps : goal.invariant-steps
invariant-steps g l =
    (k : ℕ) (d : _) → k < l.step-index → ¬ Reads (rule_at (g.B.Book.kit l.book) (get_or l.steps k d).rule) l.attribute

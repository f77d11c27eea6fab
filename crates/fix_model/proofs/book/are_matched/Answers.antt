use Rattle.std.proofs.Common.{ℕ}
use Rattle.fix_model.specs.declared.pattern.Pat.{Pat}
use Rattle.fix_model.specs.Pattern.{Matches}
use Rattle.fix_model.specs.Rules.{is_folded}
use Rattle.fix_model.specs.States.{value_at}
use Rattle.fix_model.proofs.Items.{each-read}
use Rattle.fix_model.proofs.book.are_matched.Goals as goal

pub conds-preserved : goal.conds-preserved
conds-preserved g c =
    let kit = g.B.Book.kit c.args.book.now in
    each-read (λ (cond : ℕ × Pat). Matches (is_folded kit cond.0) cond.1 (value_at kit c.args.state.now cond.0))
    c.args.rule.now.conds c.conds.cond-index c.cond-item.result
    (rw c.as_slice-cond-items.ensures at c.conds-test.true) (rw c.as_slice-cond-items.ensures at c.cond-item.is)
    c.conds.invariant (rw (c.folds.ensures, c.value-text.ensures.text)
    at (c.matches.ensures.0 c.if-not-matches.false))

use Rattle.std.proofs.Common.{◌≡◌, ℕ, get_or, sym, subst}
use Rattle.fix_model.specs.declared.kit.Kit.{Kit}
use Rattle.fix_model.specs.declared.pattern.Pat.{Pat}
use Rattle.fix_model.specs.declared.state.State.{State}
use Rattle.fix_model.specs.Pattern.{Matches}
use Rattle.fix_model.specs.Rules.{is_folded}
use Rattle.fix_model.specs.States.{IsCovered, value_at}
use Rattle.fix_model.proofs.Items.{each-read}
use Rattle.region_suggest.proofs.opening.is_matched_where_covered.Goals as goal

-- the condition matches where it is covered
abbrev IsMet : Kit → State → ℕ × Pat → Type 0
IsMet kit state cond = IsCovered state cond.0 → Matches (is_folded kit cond.0) cond.1 (value_at kit state cond.0)

pub conds-preserved : goal.conds-preserved
conds-preserved g c =
    each-read (IsMet (g.B.Book.kit c.args.book.now) c.args.state.now) c.args.rule.now.conds c.conds.cond-index
    c.cond-item.result (rw c.as_slice-cond-items.ensures at c.conds-test.true)
    (rw c.as_slice-cond-items.ensures at c.cond-item.is) c.conds.invariant
    (c.matches_where_covered.ensures.0 c.if-not-matches_where_covered.false)

pub returns-then-not-matches_where_covered : goal.returns-then-not-matches_where_covered
returns-then-not-matches_where_covered g c = let conds = c.args.rule.now.conds in
    let kit = g.B.Book.kit c.args.book.now in
    let within = rw c.as_slice-cond-items.ensures at c.conds-test.true in
    let item : c.cond-item.result ≡ get_or conds c.conds.cond-index c.cond-item.result =
    rw c.as_slice-cond-items.ensures at c.cond-item.is in (
      (λ no. absurd cc),
      λ all. absurd (
          let there : IsMet kit c.args.state.now (get_or conds c.conds.cond-index c.cond-item.result) =
          all c.conds.cond-index c.cond-item.result within in
          let here : IsMet kit c.args.state.now c.cond-item.result =
          subst (IsMet kit c.args.state.now) (sym item) there in
          let told = c.matches_where_covered.ensures.1 here in
          let fails = c.if-not-matches_where_covered.true in
          cc),
    )

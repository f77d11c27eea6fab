use Rattle.std.proofs.Common.{◌≡◌, ◌<◌, ◌+◌, ◌∙◌, ◌++◌, ◌∷◌, ℕ, List, length, get_or, take, drop, ap, sym, arith}
use Rattle.std.proofs.lemmas.List.{drop_more, get_or-take, length-take-le, take-append-drop}
use Rattle.fix_model.specs.declared.pattern.Pat.{Pat}
use Rattle.fix_model.proofs.Items.{each-read}
use Rattle.fix_blockers.specs.Blockers.{IsMet}
use Rattle.fix_blockers.proofs.blocking.first_unmet.Goals as goal

-- the conditions before this one match, and it does not
pub returns-then-not-matches : goal.returns-then-not-matches
returns-then-not-matches g c =
    let kit = g.B.Book.kit c.args.book.now in
    let state = c.args.state.now in
    let conds = c.args.rule.now.conds in
    let place : ℕ = c.conds.cond-index in
    let cond = c.cond-item.result in
    let within : place < length conds = rw c.as_slice-cond-items.ensures at c.conds-test.true in
    let is : cond ≡ get_or conds place cond = rw c.as_slice-cond-items.ensures at c.cond-item.is in
    let told = rw (c.folds.ensures, c.value-text.ensures.text) at c.matches.ensures in
    record {
      before = take place conds;
      pattern = cond.1;
      later = drop (place + 1) conds;
      there = sym (take-append-drop place conds)
          ∙ ap (λ (l : List (ℕ × Pat)). take place conds ++ l) (drop_more conds place cond within
          ∙ ap (λ (one : ℕ × Pat). one ∷ drop (place + 1) conds) (sym is));
      met = λ k d below.
          let early : k < place = omega (arith, below, length-take-le place conds (omega (arith, within))) in
          rw (get_or-take place conds k d early) (c.conds.invariant k d early);
      unmet = λ met. let matched = told.1 met in let fails = c.if-not-matches.true in cc;
    }

pub conds-preserved : goal.conds-preserved
conds-preserved g c =
    each-read (IsMet (g.B.Book.kit c.args.book.now) c.args.state.now) c.args.rule.now.conds c.conds.cond-index
    c.cond-item.result (rw c.as_slice-cond-items.ensures at c.conds-test.true)
    (rw c.as_slice-cond-items.ensures at c.cond-item.is) c.conds.invariant
    (rw (c.folds.ensures, c.value-text.ensures.text) at (c.matches.ensures.0 c.if-not-matches.false))

use Rattle.std.proofs.Common.{◌≡◌, ◌<◌, ◌∙◌, ℕ, Bool, length, get_or, ap, sym}
use Rattle.std.specs.Prelude.{not}
use Rattle.fix_model.specs.declared.pattern.Pat.{Pat}
use Rattle.fix_blockers.specs.Blockers.{is_key, is_uncovered}
use Rattle.fix_blockers.proofs.Adding.{filter_both-fails, filter_both-other_fails, filter_both-passes, grows, stays}
use Rattle.fix_blockers.proofs.Covered.{is_uncovered-told, is_uncovered-untold}
use Rattle.fix_blockers.proofs.blocking.add_others.Goals as goal
use Rattle.fix_blockers.proofs.blocking.add_others.Goals.{then-not-covers+then-not-is_key+in_ok-push, else-not-covers}
use Rattle.fix_blockers.proofs.blocking.add_others.Goals.{else-not-covers-via-then-not-covers+else-not-is_key}
use Rattle.fix_blockers.proofs.blocking.add_others.Goals.{else-not-covers-via-else-not-covers}

pub conds-preserved : goal.conds-preserved
conds-preserved c =
    let conds = c.args.rule.now.conds in
    let state = c.args.state.now in
    let test = is_uncovered state in
    let other : ℕ → Bool = λ attribute. not (is_key c.args.rule.now attribute) in
    let place : ℕ = c.conds.cond-index in
    let cond = c.cond-item.result in
    let within : place < length conds = rw c.as_slice-cond-items.ensures at c.conds-test.true in
    let is : cond ≡ get_or conds place cond = rw c.as_slice-cond-items.ensures at c.cond-item.is in
    let told = c.covers.ensures in
    let number = λ (cond : ℕ × Pat). cond.0 in
    elim c.if-not-covers.branch [
      | then-not-covers+then-not-is_key+in_ok-push w ↦ grows c.args.unknown.now _ _ _ _ cond.0 c.conds.invariant
          (filter_both-passes number conds place cond within is test other
          (ap not (sym w.is_key.ensures ∙ w.if-not-is_key.true))
          (is_uncovered-untold state cond.0 c.covers.result told.1 w.if-not-covers.true))
          (w.unknown-is ∙ w.in_ok-push.ensures.pushed)
      | else-not-covers w ↦ elim w.else-not-covers.branch [
        | else-not-covers-via-then-not-covers+else-not-is_key w' ↦ stays c.args.unknown.now _ _ _ _ c.conds.invariant
            (filter_both-other_fails number conds place cond within is test other
            (ap not (sym w'.is_key.ensures ∙ w'.if-not-is_key.false))) w.unknown-is
        | else-not-covers-via-else-not-covers w' ↦ stays c.args.unknown.now _ _ _ _ c.conds.invariant
            (filter_both-fails number conds place cond within is test other
            (is_uncovered-told state cond.0 c.covers.result told.0 w'.if-not-covers.false)) w.unknown-is
      ]
    ]

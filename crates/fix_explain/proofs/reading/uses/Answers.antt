use Rattle.std.proofs.Common.{◌≡◌, ◌+◌, ◌∙◌, arith, ℕ, subst, sym}
use Rattle.fix_explain.specs.Uses.{IsUse}
use Rattle.fix_engine.proofs.Listing.{ListsBelow, ListsBelow-no, ListsBelow-yes}
use Rattle.fix_explain.proofs.Used.{AreUses-listed}
use Rattle.fix_explain.proofs.reading.uses.Goals as goal
use Rattle.fix_explain.proofs.reading.uses.Goals.{then-is_use+in_ok-push, else-is_use}

pub attributes-preserved : goal.attributes-preserved
attributes-preserved g c =
    let holds : ℕ → Type 0 = IsUse (g.B.Book.kit c.args.book.now) c.args.state.now c.args.steps.now in
    let told = c.is_use.ensures in
    elim c.if-is_use.branch [
      | then-is_use+in_ok-push w ↦ ListsBelow-yes holds c.attributes.attribute c.attributes.used c.attributes.invariant
          c.if-is_use.used (told.0 w.if-is_use.true) (w.used-is ∙ w.in_ok-push.ensures.pushed)
      | else-is_use w ↦ subst (ListsBelow holds (c.attributes.attribute + 1)) (sym w.used-is)
          (ListsBelow-no holds c.attributes.attribute c.attributes.used c.attributes.invariant
          (λ used. let there = told.1 used in let clash = w.if-is_use.false in cc))
    ]

pub returns : goal.returns
returns g c =
    let kit = g.B.Book.kit c.args.book.now in
    let last : c.attributes.attribute ≡ kit.width =
    omega (arith, c.attributes-test.false, c.attributes.auto.attribute-end, c.width-attribute-end.ensures.width) in
    AreUses-listed kit c.args.state.now c.requires.fits c.args.steps.now c.attributes.used
    (rw last at c.attributes.invariant)

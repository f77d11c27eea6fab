use Rattle.std.proofs.Common.{◌≡◌, ◌+◌, ◌∙◌, ℕ, sym, subst, arith}
use Rattle.fix_model.specs.States.{IsCovered}
use Rattle.fix_engine.specs.Flags.{IsFlagged}
use Rattle.fix_engine.proofs.Listing.{ListsBelow, ListsBelow-no, ListsBelow-yes}
use Rattle.region_suggest.proofs.Tries.{IsNeed-tried}
use Rattle.region_suggest.proofs.needing.needed.Goals as goal
use Rattle.region_suggest.proofs.needing.needed.Goals.{then-is_needed+in_ok-push, else-is_needed}

pub attributes-preserved : goal.attributes-preserved
attributes-preserved g c =
    let holds : ℕ → Type 0 = λ attribute. IsFlagged c.in_ok-given.given.items attribute
    × ¬ IsCovered c.args.state.now attribute in
    let told = rw c.deref.ensures.value at c.is_needed.ensures in
    elim c.if-is_needed.branch [
      | then-is_needed+in_ok-push w ↦ ListsBelow-yes holds c.attributes.attribute c.attributes.need
          c.attributes.invariant c.if-is_needed.need
          (told.0 w.if-is_needed.true) (w.need-is ∙ w.in_ok-push.ensures.pushed)
      | else-is_needed w ↦ subst (ListsBelow holds (c.attributes.attribute + 1)) (sym w.need-is)
          (ListsBelow-no holds c.attributes.attribute c.attributes.need c.attributes.invariant
          (λ needed. let set_there = told.1 needed in let clash = w.if-is_needed.false in cc))
    ]

pub returns : goal.returns
returns g c = let kit = g.B.Book.kit c.args.book.now in
    let last : c.attributes.attribute ≡ kit.width =
    omega (arith, c.attributes-test.false, c.attributes.auto.attribute-end, c.width-attribute-end.ensures.width) in
    IsNeed-tried kit c.args.state.now c.in_ok-given.given.items c.attributes.need c.in_ok-given.ensures
    (rw last at c.attributes.invariant)

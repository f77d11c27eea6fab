use Rattle.std.proofs.Common.{◌≡◌, ◌∙◌, ℕ, ap, refl, arith, filter}
use Rattle.std.specs.List.{range_with_len}
use Rattle.fix_blockers.specs.declared.blocked_attribute.BlockedAttribute.{BlockedAttribute}
use Rattle.fix_blockers.specs.Blocked.{AreBlockedRules}
use Rattle.fix_blockers.specs.Blockers.{is_uncovered}
use Rattle.fix_blockers.proofs.Covered.{is_uncovered-told, is_uncovered-untold}
use Rattle.fix_blockers.proofs.Listed.{ListsBelow-fails, ListsBelow-passes}
use Rattle.fix_blockers.proofs.listing.blocked.Goals as goal
use Rattle.fix_blockers.proofs.listing.blocked.Goals.{then-not-covers+in_ok-rules+in_ok-push, else-not-covers}

pub attributes-preserved : goal.attributes-preserved
attributes-preserved g c =
    let kit = g.B.Book.kit c.args.book.now in
    let state = c.args.state.now in
    let attribute : ℕ = c.attributes.attribute in
    let number = λ (one : BlockedAttribute). one.attribute in
    let test = is_uncovered state in
    let P = λ (one : BlockedAttribute). AreBlockedRules kit state one.attribute one.rules in
    let told = c.covers.ensures in
    elim c.if-not-covers.branch [
      | then-not-covers+in_ok-rules+in_ok-push w ↦ ListsBelow-passes number test P attribute c.attributes.blocked
          c.attributes.invariant (is_uncovered-untold state attribute c.covers.result told.1 w.if-not-covers.true)
          (record { attribute = attribute; rules = w.in_ok-rules.rules }) refl w.in_ok-rules.ensures
          c.if-not-covers.blocked (w.blocked-is ∙ w.in_ok-push.ensures.pushed)
      | else-not-covers w ↦ ListsBelow-fails number test P attribute c.attributes.blocked c.attributes.invariant
          (is_uncovered-told state attribute c.covers.result told.0 w.if-not-covers.false)
          c.if-not-covers.blocked w.blocked-is
    ]

pub returns : goal.returns
returns g c =
    let kit = g.B.Book.kit c.args.book.now in
    let state = c.args.state.now in
    let last : c.attributes.attribute ≡ kit.width = omega (
      arith,
      c.attributes-test.false,
      c.attributes.auto.attribute-end,
      c.width-attribute-end.ensures.width,
    ) in
    record {
      which = c.attributes.invariant.which
          ∙ ap (λ (bound : ℕ). filter (is_uncovered state) (range_with_len 0 bound)) last;
      rules = c.attributes.invariant.each;
    }

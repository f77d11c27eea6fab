use Rattle.master_index.proofs.Parts.{ArePartsBefore-next}
use Rattle.master_index.proofs.sorted_book.sorted_parts.Goals as goal

pub owners-preserved : goal.owners-preserved
owners-preserved c =
    let is = rw c.rule.ensures.rule at c.in_ok-of.ensures in
    rw c.in_ok-push.ensures.pushed (ArePartsBefore-next c.args.kit.now c.args.owners.now c.owners.owner-index
    c.owners.parts c.in_ok-of.field-0 c.owners.invariant is)

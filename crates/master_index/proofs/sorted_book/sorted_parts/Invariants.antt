use Rattle.master_index.specs.Parts.{ArePartsBefore}
use Rattle.master_index.proofs.sorted_book.sorted_parts.Given as goal

abbrev pub invariant-owners : goal.invariant-owners
invariant-owners l = ArePartsBefore l.kit l.owners l.owner-index l.parts

use Rattle.master_index.proofs.Parts.{owners-within}
use Rattle.master_index.proofs.sorted_book.SortedBook.index.Goals as goal

pub sorted_parts-requires-clause-owners : goal.sorted_parts-requires-clause-owners
sorted_parts-requires-clause-owners c = rw c.owners.ensures (owners-within c.args.kit c.in_ok-triples.triples
    c.in_ok-triples.ensures)

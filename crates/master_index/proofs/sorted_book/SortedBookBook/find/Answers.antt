use Rattle.master_index.proofs.sorted_book.SortedBookBook.find.Goals as goal

pub entry_at-requires-clause-part : goal.entry_at-requires-clause-part
entry_at-requires-clause-part g c = rw c.self.view_is c.part.ensures

pub returns-clause-found : goal.returns-clause-found
returns-clause-found g c = rw (← c.self.view_is) c.entry_at.ensures.found

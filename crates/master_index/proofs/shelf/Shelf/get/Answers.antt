use Rattle.master_index.proofs.Holding.{few-brought}
use Rattle.master_index.proofs.shelf.Shelf.get.Goals as goal

-- also once what was lent is given back
pub invariant_of-self : goal.invariant_of-self
invariant_of-self c = rw c.get.follows.holds-at-none
    (c.self.invariant.0, few-brought c.args.edition c.self.inside.books.entries c.self.invariant.1)

use Rattle.master_index.proofs.Holding.{few-brought}
use Rattle.master_index.proofs.shelf.Shelf.bring.Goals as goal

pub invariant_of-self : goal.invariant_of-self
invariant_of-self c = rw c.promote.ensures.entries
    (c.self.invariant.0, few-brought c.args.edition c.self.inside.books.entries c.self.invariant.1)

pub returns-clause-few : goal.returns-clause-few
returns-clause-few c = rw c.promote.ensures.entries
    (few-brought c.args.edition c.self.inside.books.entries c.self.invariant.1)

use Rattle.master_index.proofs.Holding.{HoldsFew-put}
use Rattle.master_index.proofs.shelf.Shelf.put.Goals as goal

pub invariant_of-self : goal.invariant_of-self
invariant_of-self c = HoldsFew-put c.put.result c.self.inside.books c.put.new.self c.args.edition c.args.shelved
    c.put.ensures.entries c.put.ensures.err c.self.invariant

pub returns-in-Ok-clause-few : goal.returns-in-Ok-clause-few
returns-in-Ok-clause-few c = (HoldsFew-put c.put.result c.self.inside.books c.put.new.self c.args.edition
    c.args.shelved c.put.ensures.entries c.put.ensures.err c.self.invariant).1

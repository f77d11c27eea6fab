use Rattle.fix_explain.specs.Uses.{IsUse}
use Rattle.fix_engine.proofs.Listing.{ListsBelow}
use Rattle.fix_explain.proofs.reading.uses.Given as goal

-- of the attributes so far those that are used are listed
abbrev pub invariant-attributes : goal.invariant-attributes
invariant-attributes g l = ListsBelow (IsUse (g.B.Book.kit l.book) l.state l.steps) l.attribute l.used

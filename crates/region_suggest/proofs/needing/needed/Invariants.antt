use Rattle.fix_model.specs.States.{IsCovered}
use Rattle.fix_engine.specs.Flags.{IsFlagged}
use Rattle.fix_engine.proofs.Listing.{ListsBelow}
use Rattle.region_suggest.proofs.needing.needed.Given as goal

-- the needed ones of the attributes so far are listed
abbrev pub invariant-attributes : goal.invariant-attributes
invariant-attributes g l =
    ListsBelow (λ attribute. IsFlagged l.given.items attribute × ¬ IsCovered l.state attribute) l.attribute l.need

use Rattle.keeper_core.specs.Making.{AreEmptyLists}
use Rattle.keeper_core.proofs.lists.empty_lists.Given as goal

-- so many lists are made
abbrev pub invariant-clerks : goal.invariant-clerks
invariant-clerks g l = AreEmptyLists l.fresh.items l._clerk l.count

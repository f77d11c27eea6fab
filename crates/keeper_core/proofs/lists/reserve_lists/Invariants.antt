use Rattle.std.proofs.Common.{◌≡◌, take}
use Rattle.desk_words.specs.Tables.{lists_of}
use Rattle.keeper_core.specs.Making.{HasPlaces, is_named}
use Rattle.keeper_core.proofs.lists.reserve_lists.Given as goal

-- the lists hold what they held, and those of the clerks named so far have their places
abbrev pub invariant-changes : goal.invariant-changes
invariant-changes g l = record {
  lists : lists_of l.lists ≡ lists_of l.fn.lists;
  places : HasPlaces l.lists (is_named (take l.change-index l.changes)) l.count;
}

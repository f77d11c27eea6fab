use Rattle.std.proofs.Common.{◌≡◌, ◌+◌, ◌≤◌, drop}
use Rattle.keeper_core.specs.Making.{clerk_count}
use Rattle.keeper_core.proofs.room.clerk_count.Given as goal

-- what is counted and what the changes left may bring are what all may bring
abbrev pub invariant-changes : goal.invariant-changes
invariant-changes l = record {
  counted : l.count + clerk_count (drop l.change-index l.changes) ≡ clerk_count l.changes;
  few : l.count ≤ l.change-index;
}

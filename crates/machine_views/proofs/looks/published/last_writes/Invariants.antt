use Rattle.std.proofs.Common.{◌≡◌, map, take}
use Rattle.machine_views.proofs.looks.published.last_writes.Given as goal

-- the clerks so far have theirs
abbrev pub invariant-clerks : goal.invariant-clerks
invariant-clerks l = l.writes ≡ map (λ row. (row.name, row.last)) (take l.clerk-index l.clerks)

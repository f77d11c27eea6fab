use Rattle.std.proofs.Common.{◌≡◌, ◌+◌, ◌<◌, All, map}
use Rattle.machine_views.proofs.looks.derive.numbered.Given as goal

-- the rows so far have their numbers, and none that is left has too great a one
abbrev pub invariant-rows : goal.invariant-rows
invariant-rows l = record {
  numbered : l.made ≡ map (λ row. (row.0 + 1, row.1)) l.yielded;
  few : All (λ row. row.0 < 20000) l.row-iterator.rest.items;
}

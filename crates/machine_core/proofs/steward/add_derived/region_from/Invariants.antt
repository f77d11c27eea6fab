use Rattle.std.proofs.Common.{◌≡◌, map}
use Rattle.machine_core.proofs.steward.add_derived.region_from.Given as goal

-- the texts of the rows so far
abbrev pub invariant-rows : goal.invariant-rows
invariant-rows l = l.texts ≡ map (λ row. row.1) l.yielded

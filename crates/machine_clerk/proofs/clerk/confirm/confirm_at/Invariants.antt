use Rattle.std.proofs.Common.{◌≡◌, length, map, drop}
use Rattle.machine_core.specs.Clerk.Confirm.{confirmed_at}
use Rattle.machine_clerk.proofs.clerk.confirm.confirm_at.Given as goal

-- the flags with those of the cells left set are the flags with all set
abbrev pub invariant-cells : goal.invariant-cells
invariant-cells l = record {
  flags : confirmed_at l.flags (map (λ cell. cell.0) (drop l.cell-index l.cells))
      ≡ confirmed_at l.initial.flags (map (λ cell. cell.0) l.cells);
  whole : length l.flags ≡ length l.initial.flags;
}

use Rattle.std.proofs.Common.{◌≡◌, drop, length}
use Rattle.machine_core.specs.Clerk.Withdraw.{cleared}
use Rattle.machine_clerk.proofs.clerk.withdraw.clear.Given as goal

-- the flags without those left are the flags without all
abbrev pub invariant-places : goal.invariant-places
invariant-places l = record {
  flags : cleared l.flags (drop l.place-index l.places) ≡ cleared l.initial.flags l.places;
  whole : length l.flags ≡ length l.initial.flags;
}

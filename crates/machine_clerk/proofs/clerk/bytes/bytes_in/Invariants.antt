use Rattle.std.proofs.Common.{◌≡◌, ◌≤◌, ◌*◌, take}
use Rattle.desk_valid.specs.Tallies.{bytes_in}
use Rattle.desk_base.specs.declared.limits.TheConstants.{MAX_TEXT}
use Rattle.machine_clerk.proofs.clerk.bytes.bytes_in.Given as goal

-- the bytes of the texts so far
abbrev pub invariant-texts : goal.invariant-texts
invariant-texts l = record {
  bytes : l.bytes ≡ bytes_in (take l.text-index l.texts);
  few : l.bytes ≤ l.text-index * MAX_TEXT;
}

use Rattle.std.proofs.Common.{◌≡◌, ◌≤◌, ◌*◌, map, take}
use Rattle.desk_valid.specs.Tallies.{typed_bytes}
use Rattle.machine_clerk.proofs.clerk.batch.typed_bytes.Given as goal

-- the bytes of the sessions so far
abbrev pub invariant-sessions : goal.invariant-sessions
invariant-sessions l = record {
  bytes : l.bytes ≡ typed_bytes (map (λ put. put.1) (take l.put-index l.sessions));
  few : l.bytes ≤ l.put-index * 9600;
}

use Rattle.std.proofs.Common.{◌≡◌, ◌-◌, ◌≤◌, length}
use Rattle.tcp_door.proofs.leaving.LeavingPeer.send_on.Given as goal

-- no time is given
abbrev pub invariant-writes : goal.invariant-writes
invariant-writes l = record {
  taking : l.self-inside.taking ≡ l.fn.self.taking;
  closing : l.self-inside.closing ≡ l.fn.self.closing;
  sent : l.self-inside.sent ≤ length l.self-inside.unsent.items;
}

abbrev pub decreases-writes : goal.decreases-writes
decreases-writes l = length l.self-inside.unsent.items - l.self-inside.sent

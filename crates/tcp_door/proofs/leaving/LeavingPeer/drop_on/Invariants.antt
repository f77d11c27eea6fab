use Rattle.std.proofs.Common.{◌≡◌, ◌≤◌, length}
use Rattle.tcp_door.proofs.leaving.LeavingPeer.drop_on.Given as goal

-- no time is given, and what was sent stays
abbrev pub invariant-pieces : goal.invariant-pieces
invariant-pieces l = record {
  taking : l.self-inside.taking ≡ l.fn.self.taking;
  closing : l.self-inside.closing ≡ l.fn.self.closing;
  sent : l.self-inside.sent ≤ length l.self-inside.unsent.items;
}

use Rattle.std.proofs.Common.{◌+◌, ◌-◌, ◌≤◌}
use Rattle.tcp_door.proofs.ends.TcpSource.drain.Given as goal

abbrev pub invariant-pieces : goal.invariant-pieces
invariant-pieces l = l.taken ≤ 16777216 + 8192

abbrev pub decreases-pieces : goal.decreases-pieces
decreases-pieces l = 16777216 - l.taken

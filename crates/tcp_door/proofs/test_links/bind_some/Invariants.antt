use Rattle.std.proofs.Common.{◌≡◌}
use Rattle.tcp_door.proofs.test_links.bind_some.Given as goal

abbrev pub invariant-ports : goal.invariant-ports
invariant-ports g l = (g.D.Listener.seen l.door).live ≡ 0

use Rattle.tcp_door.specs.Turns.{Gathers}
use Rattle.tcp_door.proofs.held.HeldPeer.read_on.Given as goal

-- what has come since is gathered
abbrev pub invariant-reads : goal.invariant-reads
invariant-reads l = Gathers l.fn.self l.self

use Rattle.std.proofs.Common.{◌≡◌}
use Rattle.tcp_door.specs.Time.{KeepsTime}
use Rattle.tcp_door.proofs.link_end.LinkEnd.read_in_time.Given as goal

-- no fault is counted, and the time is kept
abbrev pub invariant-reads : goal.invariant-reads
invariant-reads l = record {
  faults : l.self.faults ≡ l.fn.self.faults;
  time : KeepsTime l.fn.self.time l.self.time;
}

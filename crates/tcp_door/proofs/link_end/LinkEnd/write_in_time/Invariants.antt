use Rattle.std.proofs.Common.{◌≡◌}
use Rattle.tcp_door.specs.Time.{KeepsTime}
use Rattle.tcp_door.proofs.link_end.LinkEnd.write_in_time.Given as goal

-- no fault is counted, and the time is kept
abbrev pub invariant-writes : goal.invariant-writes
invariant-writes l = record {
  faults : l.self.faults ≡ l.fn.self.faults;
  time : KeepsTime l.fn.self.time l.self.time;
}

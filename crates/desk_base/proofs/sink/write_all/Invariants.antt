use Rattle.std.proofs.Common.{ℕ, ◌≤◌, ◌-◌, take, length}
use Rattle.std.specs.Io.KnownBytes.{Appends}
use Rattle.desk_base.proofs.sink.write_all.Given as goal

abbrev pub invariant-pieces : goal.invariant-pieces
invariant-pieces g l = record {
  within : l.at ≤ length l.piece;
  grown : Appends (g.W.Sink.written l.fn.sink) (g.W.Sink.written l.sink) (take l.at l.piece);
  takes : (room : ℕ) → g.W.Sink.takes l.fn.sink room → length l.piece ≤ room → g.W.Sink.takes l.sink (room - l.at);
  later : g.W.Sink.write_faults l.fn.sink ≤ g.W.Sink.write_faults l.sink;
}

abbrev pub decreases-pieces : goal.decreases-pieces
decreases-pieces g l = length l.initial.piece - l.at

use Rattle.std.proofs.Common.{◌≤◌, ◌-◌, length}
use Rattle.std.specs.Io.KnownBytes.{Consumes}
use Rattle.once_run.proofs.input.take_pieces.Given as goal

abbrev pub invariant-pieces : goal.invariant-pieces
invariant-pieces g l = record {
  bounded : length l.bytes.items ≤ l.limit;
  taken : Consumes (g.S.Source.left l.fn.input) (g.S.Source.left l.input) l.bytes.items;
  steady : g.S.Source.is_steady l.fn.input → g.S.Source.is_steady l.input;
  later : g.S.Source.read_faults l.fn.input ≤ g.S.Source.read_faults l.input;
}

abbrev pub decreases-pieces : goal.decreases-pieces
decreases-pieces g l = l.limit - length l.bytes.items

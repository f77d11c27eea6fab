use Rattle.std.proofs.Common.{◌≡◌, ◌≤◌, ◌-◌, length}
use Rattle.std.specs.Io.KnownBytes.{Consumes}
use Rattle.sheet_blocks.proofs.front.front_of.Given as goal

abbrev pub invariant-pieces : goal.invariant-pieces
invariant-pieces g l = record {
  taken : Consumes (g.S.Source.left l.fn.source) (g.S.Source.left l.source) l.bytes.items;
  steady : g.S.Source.is_steady l.fn.source → g.S.Source.is_steady l.source;
  later : g.S.Source.read_faults l.fn.source ≤ g.S.Source.read_faults l.source;
  room : length l.piece ≡ 3;
}

abbrev pub decreases-pieces : goal.decreases-pieces
decreases-pieces g l = 3 - length l.bytes.items

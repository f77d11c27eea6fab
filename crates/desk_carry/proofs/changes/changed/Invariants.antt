use Rattle.desk_carry.proofs.Pairs.{ArePairs}
use Rattle.desk_carry.proofs.changes.changed.Given as goal

abbrev pub invariant-cells : goal.invariant-cells
invariant-cells l = ArePairs l.before.cells l.after.cells l.new l.pairs

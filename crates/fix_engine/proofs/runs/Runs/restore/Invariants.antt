use Rattle.std.proofs.Common.{◌≡◌, take, length}
use Rattle.fix_engine.proofs.runs.Runs.restore.Given as goal

-- the cells so far are as they were saved
abbrev pub invariant-cells : goal.invariant-cells
invariant-cells l = record {
  typed : l.state.typed ≡ l.initial.state.typed;
  even : length l.self.saved.items ≡ length l.state.cells;
  restored : take l.place l.state.cells ≡ take l.place l.self.saved.items;
}

use Rattle.std.proofs.Common.{◌≡◌, ◌≤◌, map, take}
use Rattle.std.specs.Prelude.{vec_capacity}
use Rattle.fix_model.specs.States.{is_covering}
use Rattle.fix_engine.proofs.flags.flag_covered.Given as goal

-- the cells so far are flagged where they cover
abbrev pub invariant-cells : goal.invariant-cells
invariant-cells l = record {
  covered : l.flags.items ≡ map is_covering (take l.cell-index l.cell-items);
  room : vec_capacity l.fn.flags ≤ vec_capacity l.flags;
}

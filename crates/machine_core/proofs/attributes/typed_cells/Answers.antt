use Rattle.std.proofs.Common.{◌<◌, ◌∙◌, length, rules}
use Rattle.std.proofs.lemmas.List.Elements.{All-push}
use Rattle.machine_core.specs.Tests.{typed_cell}
use Rattle.machine_core.proofs.Joined.{joined-none, joined-step}
use Rattle.machine_core.proofs.attributes.typed_cells.Goals as goal

pub cells-init : goal.cells-init
cells-init c = record {
  found = joined-none (typed_cell c.args.attributes.now) c.args.cells.now c.new-typed.result c.new-typed.ensures;
  within = search rules;
}

pub cells-preserved : goal.cells-preserved
cells-preserved c = record {
  found = c.cells.invariant.found ∙ joined-step (typed_cell c.args.attributes.now) c.args.cells.now c.cells.cell-index
      c.cell-item.result c.cells.typed c.push.new.self c.in_ok-found.found c.cells-test.true c.cell-item.is
      c.in_ok-found.ensures.finds c.in_ok-push.ensures.pushed;
  within = rw c.in_ok-push.ensures.pushed (All-push (λ cell. cell.0 < length c.args.attributes.now) c.cells.typed
      c.in_ok-found.found c.cells.invariant.within c.in_ok-found.ensures.within);
}

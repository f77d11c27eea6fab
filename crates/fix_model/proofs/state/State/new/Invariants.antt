use Rattle.std.proofs.Common.{◌≡◌, map, take}
use Rattle.fix_model.specs.States.{confirmed_cell}
use Rattle.fix_model.proofs.state.State.new.Given as goal

abbrev pub invariant-flags : goal.invariant-flags
invariant-flags l = l.cells.items ≡ map confirmed_cell (take l.flag-index l.confirmed)

use Rattle.std.proofs.Common.{◌≡◌, take}
use Rattle.machine_views.proofs.Carried.{apart-words}
use Rattle.machine_views.proofs.looks.carry.words_apart.Given as goal

-- the words so far that the other view does not show
abbrev pub invariant-cells : goal.invariant-cells
invariant-cells l = l.words ≡ apart-words l.other (take l.cell-index l.view.cells)

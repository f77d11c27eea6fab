use Rattle.std.proofs.Common.{◌≡◌, take}
use Rattle.machine_core.specs.Look.Suggest.{regions_of}
use Rattle.machine_views.proofs.looks.suggest.regions_of.Given as goal

-- the regions of the edition so far
abbrev pub invariant-rows : goal.invariant-rows
invariant-rows l = l.regions ≡ regions_of (take l.row-index l.rows) l.edition

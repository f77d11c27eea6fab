use Rattle.std.proofs.Common.{◌≡◌, ◌-◌, drop}
use Rattle.std.specs.Prelude.{slice_get}
use Rattle.machine_core.specs.Look.Suggest.{regions_of}
use Rattle.machine_views.proofs.looks.region.region_numbered.Given as goal

-- the region is the one after so many earlier ones among those of the rows that are left
abbrev pub invariant-rows : goal.invariant-rows
invariant-rows l = slice_get (regions_of l.rows l.edition) (l.number - 1)
    ≡ slice_get (regions_of (drop l.row-index l.rows) l.edition) l.earlier

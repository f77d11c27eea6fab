use Rattle.std.proofs.Common.{◌≡◌, map, take}
use Rattle.machine_core.specs.Look.Blocked.{shown_blocked}
use Rattle.machine_core.specs.Shelves.{bound_on}
use Rattle.machine_views.proofs.looks.blocking.shown_attributes.Given as goal

-- the attributes so far are shown
abbrev pub invariant-attributes : goal.invariant-attributes
invariant-attributes l = l.shown ≡ map (shown_blocked (bound_on l.shelved)) (take l.one-index l.blocked)

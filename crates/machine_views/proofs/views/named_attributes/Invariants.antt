use Rattle.std.proofs.Common.{◌≡◌, map, take}
use Rattle.machine_core.specs.Views.{name_at}
use Rattle.machine_views.proofs.views.named_attributes.Given as goal

-- the attributes so far are named
abbrev pub invariant-attributes : goal.invariant-attributes
invariant-attributes l = l.named ≡ map (name_at l.names) (take l.attribute-index l.attributes)

use Rattle.std.proofs.Common.{◌≡◌}
use Rattle.machine_core.specs.Steward.AddEdition.{in_order}
use Rattle.machine_core.proofs.steward.add_edition.in_order.Given as goal

-- those of the attributes so far
abbrev pub invariant-attributes : goal.invariant-attributes
invariant-attributes l = l.made ≡ in_order l.attributes l.attribute

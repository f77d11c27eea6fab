use Rattle.std.proofs.Common.{◌≡◌, map, take}
use Rattle.machine_core.specs.Look.Blocked.{shown_rule}
use Rattle.machine_core.specs.Shelves.{bound_on}
use Rattle.machine_views.proofs.looks.blocking.shown_rules.Given as goal

-- the rules so far are shown
abbrev pub invariant-rules : goal.invariant-rules
invariant-rules l = l.shown ≡ map (shown_rule (bound_on l.shelved)) (take l.one-index l.rules)

use Rattle.std.proofs.Common.{◌≡◌, map, take}
use Rattle.machine_core.specs.Look.Choices.{shown_choice}
use Rattle.machine_core.specs.Shelves.{bound_on}
use Rattle.machine_views.proofs.looks.choosing.shown_choices.Given as goal

-- the choices so far are shown
abbrev pub invariant-choices : goal.invariant-choices
invariant-choices l = l.shown ≡ map (shown_choice (bound_on l.shelved)) (take l.choice-index l.choices)

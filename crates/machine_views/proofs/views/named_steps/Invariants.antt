use Rattle.std.proofs.Common.{◌≡◌, map, take}
use Rattle.machine_core.specs.Shelves.{bound_on}
use Rattle.machine_core.specs.Views.{named_step}
use Rattle.machine_views.proofs.views.named_steps.Given as goal

-- the steps so far are named
abbrev pub invariant-steps : goal.invariant-steps
invariant-steps l = l.named ≡ map (named_step (bound_on l.shelved)) (take l.step-index l.steps)

use Rattle.std.proofs.Common.{◌≡◌, map, take}
use Rattle.machine_core.specs.Views.{name_at}
use Rattle.machine_views.proofs.looks.suggest.named_gains.Given as goal

-- the attributes so far are named, each with its gain
abbrev pub invariant-gains : goal.invariant-gains
invariant-gains l = l.named ≡ map (λ gain. (name_at l.names gain.0, gain.1)) (take l.gain-index l.gains)

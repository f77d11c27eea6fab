use Rattle.std.proofs.Common.{◌≡◌, map, take}
use Rattle.machine_core.specs.Views.{name_at}
use Rattle.machine_views.proofs.looks.edition.key_names.Given as goal

-- the keys so far have their words
abbrev pub invariant-keys : goal.invariant-keys
invariant-keys l = l.names ≡ map (λ key. name_at l.words key.0) (take l.key-index l.keys)

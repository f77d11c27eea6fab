use Rattle.std.proofs.Common.{◌≡◌, ◌<◌, All, length, drop}
use Rattle.machine_core.specs.Checked.{◌>>=◌, each, run}
use Rattle.machine_core.specs.Clerk.Withdraw.{confirmed_place}
use Rattle.machine_core.proofs.Joined.{joined}
use Rattle.machine_clerk.proofs.clerk.withdraw.confirmed_places.Given as goal

-- what was found and what is found of the names left are what is found of all
abbrev pub invariant-names : goal.invariant-names
invariant-names l = record {
  found : run (each (confirmed_place l.attributes l.confirmed) l.names)
      ≡ run (each (confirmed_place l.attributes l.confirmed) (drop l.name-index l.names) >>= joined l.places);
  within : All (λ place. place < length l.confirmed) l.places;
}

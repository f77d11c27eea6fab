use Rattle.std.proofs.Common.{◌≡◌, ◌+◌, drop}
use Rattle.machine_core.specs.Checked.{◌>>=◌, run}
use Rattle.machine_core.specs.Steward.AddRegion.{full_rows}
use Rattle.machine_core.proofs.Joined.{joined}
use Rattle.machine_core.proofs.steward.add_region.full_rows.Given as goal

-- what was found and what is found of the rows left are what is found of all
abbrev pub invariant-rows : goal.invariant-rows
invariant-rows l =
    run (full_rows l.attributes 1 l.rows) ≡ run
    (full_rows l.attributes (l.place + 1) (drop l.place l.rows) >>= joined l.full)

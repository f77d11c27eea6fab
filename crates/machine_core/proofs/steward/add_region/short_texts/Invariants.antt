use Rattle.std.proofs.Common.{◌≡◌, drop}
use Rattle.std.specs.Prelude.{zip}
use Rattle.machine_core.specs.Checked.{◌>>=◌, each, run}
use Rattle.machine_core.specs.Steward.AddRegion.{short_text}
use Rattle.machine_core.proofs.Joined.{joined}
use Rattle.machine_core.proofs.steward.add_region.short_texts.Given as goal

-- what was found and what is found of the texts left are what is found of all
abbrev pub invariant-texts : goal.invariant-texts
invariant-texts l =
    run (each short_text (zip l.attributes l.texts))
    ≡ run (each short_text (drop l.place (zip l.attributes l.texts)) >>= joined l.row)

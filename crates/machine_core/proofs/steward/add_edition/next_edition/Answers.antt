use Rattle.machine_core.proofs.steward.add_edition.next_edition.Goals as goal

pub next_version-version-requires-clause-versions : goal.next_version-version-requires-clause-versions
next_version-version-requires-clause-versions c = rw c.as_slice.ensures
    (λ place row stands. (c.requires.valid.editions place row stands).version)

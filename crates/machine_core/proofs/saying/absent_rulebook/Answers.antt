use Rattle.machine_core.proofs.saying.absent_rulebook.Goals as goal

pub next_version-newest-requires-clause-versions : goal.next_version-newest-requires-clause-versions
next_version-newest-requires-clause-versions c = rw c.as_slice.ensures
    (λ place row stands. (c.requires.rulebooks place row stands).version)

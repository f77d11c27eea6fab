use Rattle.machine_core.proofs.checking.schema_fits.Goals as goal

pub schema_row-requires-clause-versions : goal.schema_row-requires-clause-versions
schema_row-requires-clause-versions c = rw c.as_slice.ensures
    (λ place row stands. (c.requires.schemas place row stands).version)

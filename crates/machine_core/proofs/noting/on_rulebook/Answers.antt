use Rattle.machine_core.proofs.noting.on_rulebook.Goals as goal

pub on_rules-requires-clause-masters : goal.on_rules-requires-clause-masters
on_rules-requires-clause-masters c = rw c.as_slice.ensures
    (λ place row stands. (c.requires.masters place row stands).version)

use Rattle.std.proofs.Common.{ap, sym}
use Rattle.desk_words.specs.declared.refusal.Kind.TheVariants as kind
use Rattle.desk_words.specs.declared.refusal.Refusal.TheVariants.{NoSuch}
use Rattle.machine_core.specs.Checked.{run, some_or}
use Rattle.machine_clerk.proofs.clerk.opening.open_edition.Goals as goal

pub newest_of-requires : goal.newest_of-requires
newest_of-requires c = rw c.as_slice.ensures
    (λ place row stands. (c.requires.ready.valid.editions place row stands).version)

pub returns-in_default-clause-finds : goal.returns-in_default-clause-finds
returns-in_default-clause-finds c =
    let none = rw (c.as_slice.ensures, c.as_str.ensures.text, c.in_default.is) at c.newest_of.ensures.place in
    ap (λ found. run (some_or found (NoSuch kind.Edition))) (sym none)

pub returns-clause-finds : goal.returns-clause-finds
returns-clause-finds c =
    let found = rw (c.as_slice.ensures, c.as_str.ensures.text) at c.in-Some.ensures.place in
    ap (λ one. run (some_or one (NoSuch kind.Edition))) (sym found)

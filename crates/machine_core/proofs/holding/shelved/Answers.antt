use Rattle.std.proofs.Common.{◌∙◌, ap, sym}
use Rattle.std.specs.Prelude.{is_some}
use Rattle.machine_core.proofs.Shelving.{bound-held, found-first, held-first}
use Rattle.machine_core.proofs.holding.shelved.Goals as goal

pub unreachable-requires : goal.unreachable-requires
unreachable-requires c =
    let held = held-first c.args.edition c.args.shelf.now c.requires in
    let none = ap is_some c.in-None.ensures.held in
    absurd (let both = none ∙ held in cc)

pub returns-clause-first : goal.returns-clause-first
returns-clause-first c =
    found-first c.args.edition c.args.shelf.now c.in-Some.found.now c.requires (sym c.in-Some.ensures.held)

pub returns-clause-bound : goal.returns-clause-bound
returns-clause-bound c = λ published held. bound-held published c.args.edition c.args.shelf.now c.in-Some.found.now held
    (sym c.in-Some.ensures.held)

use Rattle.std.proofs.Common.{subst}
use Rattle.desk_words.specs.Tables.{rows_of}
use Rattle.machine_core.specs.Clerk.Enter.{entered}
use Rattle.machine_core.specs.Outcomes.{Finds}
use Rattle.machine_clerk.proofs.clerk.enter.enter_row.Goals as goal

pub entered-requires-clause-attributes : goal.entered-requires-clause-attributes
entered-requires-clause-attributes c =
    (c.attributes-attributes.ensures (rows_of c.args.tables.now) c.in_ok-place.ensures.ready).few

pub returns-clause-finds : goal.returns-clause-finds
returns-clause-finds c =
    let named = c.attributes-attributes.ensures (rows_of c.args.tables.now) c.in_ok-place.ensures.ready in
    rw (c.in_ok-place.ensures.finds, named.is_bound) (subst (λ words. Finds c.entered.result (entered
    c.args.own.now c.in_ok-place.place words c.args.cells.now c.args.confirmed.now)) named.are
    c.entered.ensures)

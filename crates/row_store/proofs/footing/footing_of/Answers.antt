use Rattle.std.proofs.Common.{sym, subst, ◌≡◌, ◌↔◌}
use Rattle.sqlite.specs.Held.{state}
use Rattle.row_store.specs.Table.{IsMadeBeside}
use Rattle.row_store.specs.declared.footing.Footing.TheVariants.{Desk}
use Rattle.row_store.proofs.Rests.{lasts}
use Rattle.row_store.proofs.Made.{found_made}
use Rattle.row_store.proofs.footing.footing_of.Goals as goal

pub returns-clause-lasts : goal.returns-clause-lasts
returns-clause-lasts g c up =
    let rest = c.in_ok-at_rest.ensures.rests in
    lasts (state g.S.Store c.args.conn.now)
    (λ trees opened left. g.met.S.Store.settled c.args.conn.now.store trees opened left)
    (λ clean. rest.settled up.1) (λ clean. rest.obeys up.1) up

pub returns-clause-table : goal.returns-clause-table
returns-clause-table g c =
    let schema = (state g.S.Store c.args.conn.now).now.schema in
    subst (λ f. (f ≡ Desk) ↔ IsMadeBeside schema) (sym (rw c.schema.ensures.value at c.found_in.ensures))
    (found_made schema)

use Rattle.std.proofs.Common.{refl, sym, true≢false, ◌∙◌}
use Rattle.sqlite.specs.Held.{state}
use Rattle.row_store.specs.Stored.{MakesTable, MakesTableIn}
use Rattle.row_store.proofs.Halted.{halts}
use Rattle.row_store.proofs.Rests.{leaves, same_database, goes_on, stays_on}
use Rattle.row_store.proofs.making.make_table.Goals as goal

pub returns-clause-crash : goal.returns-clause-crash
returns-clause-crash g c =
    leaves MakesTable (MakesTableIn (state g.S.Store c.args.conn.now).now) (state g.S.Store c.args.conn.now)
    (state g.S.Store c.make_alone.new.conn)
    (λ trees opened left. g.met.S.Store.settled c.args.conn.now.store trees opened left) c.in_ok-at_rest.ensures.rests
    c.make_alone.ensures.survives
    (λ opened clean db found obeys.
    let (now, made, is) = found in
    let same = same_database db now is obeys made.sound in
    rw same made)

pub returns-clause-goes_on : goal.returns-clause-goes_on
returns-clause-goes_on g c =
    goes_on (state g.S.Store c.args.conn.now) (state g.S.Store c.make_alone.new.conn) _ c.make_alone.ensures.survives

pub returns-in_err-at_rest-clause-goes_on : goal.returns-in_err-at_rest-clause-goes_on
returns-in_err-at_rest-clause-goes_on g c = stays_on (state g.S.Store c.args.conn.now)

pub returns-clause-cause : goal.returns-clause-cause
returns-clause-cause g c =
    halts c.make_alone.result _ _ (state g.S.Store c.args.conn.now) (state g.S.Store c.make_alone.new.conn)
    c.make_alone.ensures.cause

pub returns-in_err-at_rest-clause-crash : goal.returns-in_err-at_rest-clause-crash
returns-in_err-at_rest-clause-crash g c alone =
    absurd (true≢false (sym (c.in_err-at_rest.ensures.under_way.0 refl) ∙ alone))

use Rattle.std.proofs.Common.{◌≡◌, refl, sym, true≢false, ◌∙◌, map, List, Result, Ok, Err, IsTrue, OnOk, OnErr, subst}
use Rattle.desk_packing.specs.Lines.{Line, line_of}
use Rattle.sqlite.specs.Effect.{IsDatabase}
use Rattle.sqlite.specs.Held.{state}
use Rattle.sqlite.specs.State.{State, HasCleanDisk}
use Rattle.sqlite.specs.declared.error.Error.{Error}
use Rattle.row_store.specs.Calls.{IsCommitted, Lasts}
use Rattle.row_store.specs.Stored.{Puts, PutsIn, Stands}
use Rattle.row_store.proofs.Halted.{halts_or}
use Rattle.row_store.proofs.Rests.{IsSettled, leaves, lasts, same_database, goes_on, stays_on}
use Rattle.row_store.proofs.putting.put_rows.Goals as goal

pub returns-in_err-at_rest-clause-crash : goal.returns-in_err-at_rest-clause-crash
returns-in_err-at_rest-clause-crash g c alone =
    absurd (true≢false (sym (c.in_err-at_rest.ensures.under_way.0 refl) ∙ alone))

pub returns-clause-crash : goal.returns-clause-crash
returns-clause-crash g c =
    let more = map line_of c.args.rows.now in
    leaves (Puts more) (PutsIn more (state g.S.Store c.args.conn.now).now) (state g.S.Store c.args.conn.now)
    (state g.S.Store c.put_all.new.conn)
    (λ trees opened left. g.met.S.Store.settled c.args.conn.now.store trees opened left) c.in_ok-at_rest.ensures.rests
    c.put_all.ensures.survives
    (λ opened clean db found obeys lines stands.
    let (now, puts, is) = found in
    let put = puts lines stands in
    let same = same_database db now is obeys (put.1.obeys (c.in_ok-at_rest.ensures.rests.obeys opened)) in
    rw same put)

pub returns-in_err-at_rest-clause-lasts : goal.returns-in_err-at_rest-clause-lasts
returns-in_err-at_rest-clause-lasts g c alone =
    absurd (true≢false (sym (c.in_err-at_rest.ensures.under_way.0 refl) ∙ alone))

-- what stands after the rows were put, or were refused, lasts
last_put : (more : List Line) (old new : State) (r : Result (Unit {0}) Error) → IsSettled new
    → (IsTrue old.is_open → IsDatabase old.now) → (HasCleanDisk new → OnOk r (Puts more old.now new.now))
    → (HasCleanDisk new → OnOk r (IsCommitted old new))
    → (HasCleanDisk new → IsTrue new.is_open
    → OnErr r (IsTrue old.is_open × (new.now ≡ old.now) × (new.committed ≡ old.now)))
    → (lines : List Line) → Stands old.now lines → Lasts new
last_put more old new (Ok done) store obeys put ends refused lines stands up =
    lasts new store (λ clean. (ends clean).settled)
    (λ clean. (put clean lines stands).1.obeys (obeys (ends clean).was_open)) up
last_put more old new (Err e) store obeys put ends refused lines stands up =
    let (was_open, now_is, committed_is) = refused up.0 up.1 in
    lasts new store (λ clean. now_is ∙ sym committed_is) (λ clean. subst IsDatabase (sym now_is) (obeys was_open)) up

pub returns-clause-lasts : goal.returns-clause-lasts
returns-clause-lasts g c alone =
    last_put (map line_of c.args.rows.now) (state g.S.Store c.args.conn.now) (state g.S.Store c.put_all.new.conn)
    c.put_all.result
    (λ trees opened left. g.met.S.Store.settled c.put_all.new.conn.store trees opened left)
    c.in_ok-at_rest.ensures.rests.obeys c.put_all.ensures.put c.put_all.ensures.ends c.put_all.ensures.refused

pub returns-clause-cause : goal.returns-clause-cause
returns-clause-cause g c =
    halts_or c.put_all.result _ _ (List Line) (Stands (state g.S.Store c.args.conn.now).now) _
    (state g.S.Store c.args.conn.now) (state g.S.Store c.put_all.new.conn) c.put_all.ensures.cause

pub returns-clause-goes_on : goal.returns-clause-goes_on
returns-clause-goes_on g c =
    goes_on (state g.S.Store c.args.conn.now) (state g.S.Store c.put_all.new.conn) _ c.put_all.ensures.survives

pub returns-in_err-at_rest-clause-goes_on : goal.returns-in_err-at_rest-clause-goes_on
returns-in_err-at_rest-clause-goes_on g c = stays_on (state g.S.Store c.args.conn.now)

use Rattle.std.proofs.Common.{refl, sym, true≢false, ◌∙◌, ℕ, [], ◌≢◌, Result, Ok, Err, IfErr, IsTrue}
use Rattle.sqlite.specs.Held.{state}
use Rattle.row_store.proofs.Asked.{becomes_shown, stays_asked, leaves_asked, lasts_shown}
use Rattle.row_store.proofs.reading.shown_rows.Goals as goal
use Rattle.sqlite.specs.State.{State, HasCleanDisk, Survives, FailsToQuery, CommitsShowing}
use Rattle.sqlite.specs.declared.error.Error.{Error}
use Rattle.row_store.specs.Refusals.{IsStopped, no_memory}
use Rattle.row_store.specs.Table.{is_desk}
use Rattle.row_store.proofs.Rests.{was_clean, goes_on, stays_on}
use Rattle.row_store.proofs.Texts.{select_text}
use Rattle.row_store.proofs.Unrefused.{asked}

pub returns-in_err-at_rest-clause-crash : goal.returns-in_err-at_rest-clause-crash
returns-in_err-at_rest-clause-crash g c alone =
    absurd (true≢false (sym (c.in_err-at_rest.ensures.under_way.0 refl) ∙ alone))

pub returns-clause-shown : goal.returns-clause-shown
returns-clause-shown g c =
    becomes_shown (λ rows. rows.items) (state g.S.Store c.args.conn.now) (state g.S.Store c.query_all.new.self)
    c.requires c.in_ok-at_rest.ensures.rests c.query_all.ensures.survives
    c.query_all.result c.query_all.ensures.ok

pub returns-clause-unchanged : goal.returns-clause-unchanged
returns-clause-unchanged g c =
    stays_asked (λ rows. rows.items) (state g.S.Store c.args.conn.now) (state g.S.Store c.query_all.new.self) c.requires
    c.in_ok-at_rest.ensures.rests c.query_all.ensures.survives
    c.query_all.result c.query_all.ensures.ok c.query_all.ensures.err

pub returns-clause-crash : goal.returns-clause-crash
returns-clause-crash g c =
    leaves_asked (λ (none : ℕ). []) (state g.S.Store c.args.conn.now) (state g.S.Store c.query_all.new.self) c.requires
    c.in_ok-at_rest.ensures.rests c.query_all.ensures.survives
    (λ trees opened left. g.met.S.Store.settled c.args.conn.now.store trees opened left)

pub returns-clause-lasts : goal.returns-clause-lasts
returns-clause-lasts g c =
    lasts_shown (λ rows. rows.items) (state g.S.Store c.args.conn.now) (state g.S.Store c.query_all.new.self) c.requires
    c.in_ok-at_rest.ensures.rests c.query_all.ensures.survives
    (λ trees opened left. g.met.S.Store.settled c.query_all.new.self.store trees opened left) c.query_all.result
    c.query_all.ensures.ok

-- where the query is refused, it was stopped
refused_query : {A : Type 0} (old new : State) (alone : Type 0) (r : Result A Error)
    → (HasCleanDisk old → IsTrue (is_desk old.now.schema))
    → Survives old new (CommitsShowing select_text [] old)
    → (HasCleanDisk new → IfErr r (FailsToQuery select_text [] old new))
    → IfErr r (λ e. e ≢ no_memory → alone → HasCleanDisk new → IsStopped old new)
refused_query old new alone (Ok rows) desk survives err = tt
refused_query old new alone (Err e) desk survives err = λ other rest clean.
    asked old new e other (desk (was_clean old new _ survives clean)) (err clean)

pub returns-clause-cause : goal.returns-clause-cause
returns-clause-cause g c =
    refused_query (state g.S.Store c.args.conn.now) (state g.S.Store c.query_all.new.self) _ c.query_all.result
    c.requires
    c.query_all.ensures.survives c.query_all.ensures.err

pub returns-clause-goes_on : goal.returns-clause-goes_on
returns-clause-goes_on g c =
    goes_on (state g.S.Store c.args.conn.now) (state g.S.Store c.query_all.new.self) _ c.query_all.ensures.survives

pub returns-in_err-at_rest-clause-goes_on : goal.returns-in_err-at_rest-clause-goes_on
returns-in_err-at_rest-clause-goes_on g c = stays_on (state g.S.Store c.args.conn.now)

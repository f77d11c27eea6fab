use Rattle.std.proofs.Common.{inl, inr, sym, ◌∙◌, ◌≡◌}
use Rattle.sqlite.specs.Held.{state}
use Rattle.row_store.specs.Stored.{MakesTable}
use Rattle.keeper_sqlite.proofs.Keeps.{keeps_done, keeps_refused, make_tells}
use Rattle.row_store.proofs.Made.{absent_found, desk_found}
use Rattle.keeper_sqlite.proofs.loading.ready_table.Goals as goal
use Rattle.keeper_core.specs.declared.keeper.KeepFail.TheVariants.{Failed}
use Rattle.row_store.specs.Refusals.{no_memory}
use Rattle.keeper_sqlite.proofs.Failing.{not_memory}

pub returns-in-Ok-make_table-clause-keeps : goal.returns-in-Ok-make_table-clause-keeps
returns-in-Ok-make_table-clause-keeps g c =
    keeps_done MakesTable (state g.S.Store c.args.conn.now) (state g.S.Store c.make_table.new.conn)
    c.make_table.ensures.crash
    (make_tells (state g.S.Store c.args.conn.now) (sym c.in-Ok.ensures.footing ∙ c.in-Absent.is))
    c.make_table.ensures.autocommit c.in-Ok-make_table.ensures.made

pub returns-in-Err-make_table-clause-keeps : goal.returns-in-Err-make_table-clause-keeps
returns-in-Err-make_table-clause-keeps g c =
    keeps_refused MakesTable (state g.S.Store c.args.conn.now) (state g.S.Store c.make_table.new.conn)
    c.make_table.ensures.crash
    (make_tells (state g.S.Store c.args.conn.now) (sym c.in-Ok.ensures.footing ∙ c.in-Absent.is))
    c.make_table.ensures.autocommit c.in-Err-make_table.ensures.unchanged

pub returns-in-Err-make_table-clause-fails : goal.returns-in-Err-make_table-clause-fails
returns-in-Err-make_table-clause-fails g c failed clean rows told =
    let is : c.store_fail-in-Err-make_table.result ≡ Failed = let e = failed in cc in
    let other = not_memory c.store_fail-in-Err-make_table.result c.in-Err-make_table.error no_memory
    c.store_fail-in-Err-make_table.ensures is in
    c.in-Err-make_table.ensures.cause other c.requires.autocommit c.requires.unlimited clean

pub make_table-requires : goal.make_table-requires
make_table-requires g c =
    absent_found (state g.S.Store c.args.conn.now).now.schema (sym c.in-Ok.ensures.footing ∙ c.in-Absent.is)

pub returns-in-Desk-clause-ready : goal.returns-in-Desk-clause-ready
returns-in-Desk-clause-ready g c = record {
  desk = λ clean. desk_found (state g.S.Store c.args.conn.now).now.schema (sym c.in-Ok.ensures.footing ∙ c.in-Desk.is);
  stays_up = λ up clean. up.1;
}

pub returns-in-Ok-make_table-clause-spares : goal.returns-in-Ok-make_table-clause-spares
returns-in-Ok-make_table-clause-spares g c clean opened =
    let (was_up, is_open, made) = c.in-Ok-make_table.ensures.made clean in
    (was_up.1, inr made)

pub returns-in-Err-make_table-clause-spares : goal.returns-in-Err-make_table-clause-spares
returns-in-Err-make_table-clause-spares g c clean opened =
    let back = (c.in-Err-make_table.ensures.unchanged clean).1 opened in
    (back.0, inl back.1)

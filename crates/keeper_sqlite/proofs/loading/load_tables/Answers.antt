use Rattle.std.proofs.Common.{Err, inl, ap}
use Rattle.keeper_core.specs.declared.keeper.KeepFail.TheVariants.{Failed}
use Rattle.sqlite.specs.Held.{state}
use Rattle.keeper_sqlite.proofs.Told.{told_holding}
use Rattle.keeper_sqlite.proofs.Loads.{goes_then, on_err, passed_error, spares_then, stopped_reading, stopped_renewing}
use Rattle.keeper_sqlite.proofs.Keeps.{keeps_then}
use Rattle.keeper_sqlite.proofs.loading.load_tables.Goals as goal

pub returns-in_err-alloc-clause-fails : goal.returns-in_err-alloc-clause-fails
returns-in_err-alloc-clause-fails g c failed clean rows told =
    inl
    (stopped_reading _ (state g.S.Store c.ready_table.new.conn) _ c.ready_table.ensures.goes_on
    c.ready_table.ensures.keeps c.read_found.ensures.goes_on
    (c.read_found.ensures.keeps.clean clean)
    (c.in_err-alloc.ensures.fails
    (ap Err (passed_error _ c.in_err-alloc.field-0.0 Failed c.from_residual-in_err-alloc.ensures.1 failed)) clean)
    rows told)

pub returns-in_err-alloc-clause-spares : goal.returns-in_err-alloc-clause-spares
returns-in_err-alloc-clause-spares g c =
    on_err c.from_residual-in_err-alloc.result _
    (spares_then (state g.S.Store c.args.conn.now) (state g.S.Store c.ready_table.new.conn)
    (state g.S.Store c.read_found.new.conn) c.ready_table.ensures.spares c.read_found.ensures.unchanged)

pub returns-in_err-shape-clause-spares : goal.returns-in_err-shape-clause-spares
returns-in_err-shape-clause-spares g c =
    on_err c.from_residual-in_err-shape.result _
    (spares_then (state g.S.Store c.args.conn.now) (state g.S.Store c.ready_table.new.conn)
    (state g.S.Store c.read_found.new.conn) c.ready_table.ensures.spares c.read_found.ensures.unchanged)

pub returns-in_err-renew-clause-spares : goal.returns-in_err-renew-clause-spares
returns-in_err-renew-clause-spares g c =
    on_err c.from_residual-in_err-renew.result _
    (spares_then (state g.S.Store c.args.conn.now) (state g.S.Store c.read_found.new.conn)
    (state g.S.Store c.renew.new.conn)
    (spares_then (state g.S.Store c.args.conn.now) (state g.S.Store c.ready_table.new.conn)
    (state g.S.Store c.read_found.new.conn) c.ready_table.ensures.spares c.read_found.ensures.unchanged)
    c.in_err-renew.ensures.leaves.unchanged)

pub returns-in_err-renew-clause-fails : goal.returns-in_err-renew-clause-fails
returns-in_err-renew-clause-fails g c failed clean =
    let late = c.renew.ensures.leaves.keeps.clean clean in
    let early = c.read_found.ensures.keeps.clean late in
    let is_found = c.in_ok-alloc.ensures.found late in
    stopped_renewing (state g.S.Store c.args.conn.now) (state g.S.Store c.read_found.new.conn)
    (state g.S.Store c.renew.new.conn) _
    (goes_then _ (state g.S.Store c.ready_table.new.conn) _ c.ready_table.ensures.goes_on early
    c.read_found.ensures.goes_on)
    (keeps_then _ (state g.S.Store c.ready_table.new.conn) _ c.ready_table.ensures.keeps
    c.in_ok-ready_table.ensures.ready.stays_up c.read_found.ensures.keeps)
    (spares_then (state g.S.Store c.args.conn.now) (state g.S.Store c.ready_table.new.conn)
    (state g.S.Store c.read_found.new.conn) c.ready_table.ensures.spares c.read_found.ensures.unchanged) late
    is_found.0 (told_holding c.in_ok-alloc.found.age (state g.S.Store c.read_found.new.conn).now _ is_found.1)
    (c.in_err-renew.ensures.fails
    (ap Err (passed_error _ c.in_err-renew.field-0.0 Failed c.from_residual-in_err-renew.ensures.1 failed)) clean)

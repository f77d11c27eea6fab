use Rattle.std.proofs.Common.{◌≡◌, Err, ap}
use Rattle.keeper_core.specs.declared.keeper.KeepFail.TheVariants.{Failed}
use Rattle.row_store.specs.Refusals.{no_memory}
use Rattle.keeper_sqlite.proofs.Failing.{not_memory}
use Rattle.sqlite.specs.Held.{state}
use Rattle.keeper_sqlite.proofs.Loads.{passed_error, read_stand}
use Rattle.keeper_sqlite.proofs.Read.{short_lines, told_lines}
use Rattle.keeper_sqlite.proofs.loading.read_found.Goals as goal

pub returns-in-Err-clause-fails : goal.returns-in-Err-clause-fails
returns-in-Err-clause-fails g c failed clean rows told =
    let is : c.store_fail.result ≡ Failed = let e = failed in cc in
    let other = not_memory c.store_fail.result c.in-Err.error no_memory c.store_fail.ensures is in
    let desk = c.requires.desk (c.in-Err.ensures.unchanged clean).0 in
    let (lines, stand, tables) = told_lines (state g.S.Store c.args.conn.now).now rows desk told in
    c.in-Err.ensures.cause other c.requires.autocommit c.requires.unlimited clean lines
    (short_lines lines rows tables) stand

pub returns-in_err-found_in-clause-fails : goal.returns-in_err-found_in-clause-fails
returns-in_err-found_in-clause-fails g c failed clean rows told =
    let is : c.in_err-found_in.field-0.0 ≡ Failed =
    passed_error c.from_residual.result c.in_err-found_in.field-0.0 Failed c.from_residual.ensures.1 failed in
    let (was_up, is_open, reads) = c.in-Ok.ensures.read clean in
    let same : c.as_slice.result.now ≡ c.in-Ok.rows = c.as_slice.ensures in
    let stand =
    read_stand (state g.S.Store c.args.conn.now).now (state g.S.Store c.all_rows.new.conn).now _ rows reads told in
    absurd
    (c.in_err-found_in.ensures.fails (ap Err is) rows (rw same reads.order) (rw same stand))

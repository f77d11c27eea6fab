use Rattle.std.proofs.Common.{map, ap, inl, ◌∙◌, ◌≡◌, Err}
use Rattle.desk_packing.specs.Lines.{line_of}
use Rattle.desk_packing.specs.Shapes.{lines_of_changes}
use Rattle.sqlite.specs.Held.{state}
use Rattle.keeper_sqlite.proofs.Changed.{becomes_changed, knows_changed, knows_kept, leaves_changed}
use Rattle.desk_packing.specs.declared.error.PackFault.TheVariants as pack
use Rattle.keeper_core.specs.declared.keeper.KeepFail.TheVariants.{Failed}
use Rattle.row_store.specs.Refusals.{no_memory}
use Rattle.keeper_sqlite.proofs.Failing.{not_memory, unpacked_fails, unput_fails}
use Rattle.keeper_sqlite.proofs.committing.commit_changes.Goals as goal

pub returns-in-Err-clause-crash : goal.returns-in-Err-clause-crash
returns-in-Err-clause-crash g c alone up clean db found = inl (c.requires.known.0 up db found)

pub returns-in-Ok-put_rows-clause-committed : goal.returns-in-Ok-put_rows-clause-committed
returns-in-Ok-put_rows-clause-committed g c =
    becomes_changed c.args.shape.now c.args.changes.now (map line_of c.as_slice.result.now)
    (state g.S.Store c.args.conn.now) (state g.S.Store c.put_rows.new.conn)
    (ap (map line_of) c.as_slice.ensures ∙ c.in-Ok.ensures.rows) c.in-Ok.ensures.fields c.requires.known.1
    c.in-Ok-put_rows.ensures.put

pub returns-in-Ok-put_rows-clause-grown : goal.returns-in-Ok-put_rows-clause-grown
returns-in-Ok-put_rows-clause-grown g c =
    knows_changed c.args.shape.now c.args.changes.now (map line_of c.as_slice.result.now)
    (state g.S.Store c.args.conn.now) (state g.S.Store c.put_rows.new.conn)
    (ap (map line_of) c.as_slice.ensures ∙ c.in-Ok.ensures.rows) c.in-Ok.ensures.fields c.requires.known.1
    c.in-Ok.packed.shape c.in-Ok.ensures.shape c.requires.fit c.in-Ok-put_rows.ensures.put
    (λ up. let holds = (c.requires.known.1 up).holds in
    c.put_rows.ensures.lasts c.requires.autocommit holds.lines holds.stand)

pub returns-in-Ok-put_rows-clause-crash : goal.returns-in-Ok-put_rows-clause-crash
returns-in-Ok-put_rows-clause-crash g c =
    leaves_changed c.args.shape.now c.args.changes.now (map line_of c.as_slice.result.now)
    (state g.S.Store c.args.conn.now) (state g.S.Store c.put_rows.new.conn)
    (ap (map line_of) c.as_slice.ensures ∙ c.in-Ok.ensures.rows) c.in-Ok.ensures.fields c.requires.known.1
    c.put_rows.ensures.crash

pub returns-in-Err-put_rows-clause-crash : goal.returns-in-Err-put_rows-clause-crash
returns-in-Err-put_rows-clause-crash g c =
    leaves_changed c.args.shape.now c.args.changes.now (map line_of c.as_slice.result.now)
    (state g.S.Store c.args.conn.now) (state g.S.Store c.put_rows.new.conn)
    (ap (map line_of) c.as_slice.ensures ∙ c.in-Ok.ensures.rows) c.in-Ok.ensures.fields c.requires.known.1
    c.put_rows.ensures.crash

pub returns-in-Err-put_rows-clause-kept : goal.returns-in-Err-put_rows-clause-kept
returns-in-Err-put_rows-clause-kept g c =
    knows_kept c.args.shape.now (state g.S.Store c.args.conn.now) (state g.S.Store c.put_rows.new.conn) c.requires.known
    c.in-Err-put_rows.ensures.unchanged
    (λ up. let holds = (c.requires.known.1 up).holds in
    c.put_rows.ensures.lasts c.requires.autocommit holds.lines holds.stand)

pub returns-in-Err-clause-fails : goal.returns-in-Err-clause-fails
returns-in-Err-clause-fails g c failed clean =
    let is : c.pack_fail.result ≡ Failed = let e = failed in cc in
    unpacked_fails c.args.shape.now c.args.changes.now (state g.S.Store c.args.conn.now) c.requires.known c.requires.fit
    c.in-Err.fault (not_memory c.pack_fail.result c.in-Err.fault pack.NoMemory c.pack_fail.ensures is)
    (λ same fits. c.in-Err.ensures.misfit (ap Err same) fits)
    (λ same fields. c.in-Err.ensures.too_long (ap Err same) fields) clean

pub returns-in-Err-put_rows-clause-fails : goal.returns-in-Err-put_rows-clause-fails
returns-in-Err-put_rows-clause-fails g c failed clean =
    let is : c.store_fail.result ≡ Failed = let e = failed in cc in
    let other = not_memory c.store_fail.result c.in-Err-put_rows.error no_memory c.store_fail.ensures is in
    unput_fails c.args.shape.now c.args.changes.now (state g.S.Store c.args.conn.now) c.requires.known c.requires.fit
    (state g.S.Store c.put_rows.new.conn) (map line_of c.as_slice.result.now)
    (◌∙◌ {c = lines_of_changes c.args.shape.now c.args.changes.now} (ap (map line_of) c.as_slice.ensures)
    c.in-Ok.ensures.rows)
    c.in-Err-put_rows.ensures.unchanged clean
    (λ lines stands.
    c.in-Err-put_rows.ensures.cause other c.requires.autocommit c.requires.unlimited clean lines stands)

use Rattle.std.proofs.Common.{map, ap, ◌∙◌, ◌≡◌, ◌⊎◌, subst}
use Rattle.desk_packing.specs.Lines.{line_of}
use Rattle.desk_words.specs.Tables.{rows_of}
use Rattle.sqlite.specs.Held.{state}
use Rattle.keeper_sqlite.specs.declared.loading.Age.TheVariants as age
use Rattle.keeper_sqlite.proofs.Keeps.{old_renews, renew_done, renew_refused}
use Rattle.keeper_sqlite.proofs.renewing.migrate.Goals as goal
use Rattle.keeper_core.specs.declared.keeper.KeepFail.TheVariants.{Failed}
use Rattle.row_store.specs.Refusals.{no_memory, IsHalted, LacksRoomFor}
use Rattle.keeper_sqlite.proofs.Failing.{lacks_held, not_memory}

pub returns-in-Ok-put_rows-clause-leaves : goal.returns-in-Ok-put_rows-clause-leaves
returns-in-Ok-put_rows-clause-leaves g c =
    let more = map line_of c.as_slice.result.now in
    let is = ap (map line_of) c.as_slice.ensures ∙ c.in-Ok.ensures.rows in
    renew_done age.Old (state g.S.Store c.args.conn.now) (state g.S.Store c.put_rows.new.conn)
    (rows_of c.args.tables.now) more c.requires.may.found (λ lines h. old_renews more lines _ is h)
    c.put_rows.ensures.crash c.put_rows.ensures.autocommit c.put_rows.ensures.goes_on _ c.in-Ok-put_rows.ensures.put
    (c.put_rows.ensures.lasts c.requires.may.autocommit)

pub returns-clause-leaves : goal.returns-clause-leaves
returns-clause-leaves g c =
    let more = map line_of c.as_slice.result.now in
    let is = ap (map line_of) c.as_slice.ensures ∙ c.in-Ok.ensures.rows in
    renew_refused age.Old (state g.S.Store c.args.conn.now) (state g.S.Store c.put_rows.new.conn)
    (rows_of c.args.tables.now) more c.requires.may.found (λ lines h. old_renews more lines _ is h)
    c.put_rows.ensures.crash c.put_rows.ensures.autocommit c.put_rows.ensures.goes_on _
    c.in-Err-put_rows.ensures.unchanged

pub returns-clause-fails : goal.returns-clause-fails
returns-clause-fails g c failed clean =
    let is : c.store_fail.result ≡ Failed = let e = failed in cc in
    let other = not_memory c.store_fail.result c.in-Err-put_rows.error no_memory c.store_fail.ensures is in
    let held = (c.requires.may.found (c.in-Err-put_rows.ensures.unchanged clean).0).1 in
    let rows_are = ap (map line_of) c.as_slice.ensures ∙ c.in-Ok.ensures.rows in
    lacks_held _ _ held
    (subst (λ ls. IsHalted (state g.S.Store c.args.conn.now) (state g.S.Store c.put_rows.new.conn)
    ⊎ LacksRoomFor ls (state g.S.Store c.args.conn.now).now) rows_are
    (c.in-Err-put_rows.ensures.cause other c.requires.may.autocommit c.requires.may.unlimited clean held.lines
    held.stand))

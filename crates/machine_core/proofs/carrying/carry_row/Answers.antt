use Rattle.std.proofs.Common.{◌∙◌, Ok, ap, arith, length, sym}
use Rattle.desk_words.specs.declared.rows.session.SessionRow.{SessionRow}
use Rattle.desk_words.specs.Tables.{published_of, rows_of}
use Rattle.machine_core.specs.Checked.{told}
use Rattle.machine_core.proofs.Carried.{IsCarried-stands, carry-missing, carry-newer, carry-old, own-pinned}
use Rattle.machine_core.proofs.Carried.{session-carried}
use Rattle.machine_core.proofs.GoodRows.{own-session}
use Rattle.machine_core.proofs.carrying.carry_row.Goals as goal

pub bounds-editions-session : goal.bounds-editions-session
bounds-editions-session c =
    let good = own-session (rows_of c.args.tables.now) c.args.own.now c.requires.valid c.requires.own c.args.number
    c.in_ok-session.session.now c.sessions.ensures c.in_ok-session.ensures.stands in
    omega (arith, good.edition, ap length c.as_slice-editions.ensures)

pub returns-in_default-clause-finds : goal.returns-in_default-clause-finds
returns-in_default-clause-finds c =
    let pinned = own-pinned (rows_of c.args.tables.now) c.args.own.now c.args.number c.in_ok-session.session.now
    c.index-editions-session.result c.requires.valid c.requires.own c.sessions.ensures c.in_ok-session.ensures.finds
    c.in_ok-session.ensures.stands c.as_slice-editions.ensures c.index-editions-session.is in
    let none = rw (c.as_slice-editions.ensures, c.as_str.ensures.text) at c.in_default.ensures.place in
    carry-missing (published_of (rows_of c.args.tables.now)) c.args.own.now c.args.number c.args.version
    c.in_ok-session.session.now c.index-editions-session.result pinned.found pinned.same (sym none)

pub returns-then-version-pinned-clause-finds : goal.returns-then-version-pinned-clause-finds
returns-then-version-pinned-clause-finds c =
    let pinned = own-pinned (rows_of c.args.tables.now) c.args.own.now c.args.number c.in_ok-session.session.now
    c.index-editions-session.result c.requires.valid c.requires.own c.sessions.ensures c.in_ok-session.ensures.finds
    c.in_ok-session.ensures.stands c.as_slice-editions.ensures c.index-editions-session.is in
    let named = rw (c.as_slice-editions.ensures, c.as_str.ensures.text) at c.in-Some.ensures.place in
    rw c.from.ensures (carry-old (published_of (rows_of c.args.tables.now)) c.args.own.now c.args.number c.args.version
    c.in_ok-session.session.now c.index-editions-session.result pinned.found pinned.same c.in-Some.edition (sym named)
    c.if-version-pinned.true)

pub carried_to-requires-clause-session : goal.carried_to-requires-clause-session
carried_to-requires-clause-session c =
    own-session (rows_of c.args.tables.now) c.args.own.now c.requires.valid c.requires.own c.args.number
    c.in_ok-session.session.now c.sessions.ensures c.in_ok-session.ensures.stands

pub returns-clause-finds : goal.returns-clause-finds
returns-clause-finds c =
    let rows = rows_of c.args.tables.now in
    let session = c.in_ok-session.session.now in
    let pinned = own-pinned rows c.args.own.now c.args.number session c.index-editions-session.result
    c.requires.valid c.requires.own c.sessions.ensures c.in_ok-session.ensures.finds c.in_ok-session.ensures.stands
    c.as_slice-editions.ensures c.index-editions-session.is in
    let named = rw (c.as_slice-editions.ensures, c.as_str.ensures.text) at c.in-Some.ensures.place in
    let within = rw c.as_slice-editions.ensures at c.in-Some.ensures.within in
    let carried = session-carried c.requires.valid pinned.good within c.in_ok-carried_to.ensures in
    carry-newer (published_of rows) c.args.own.now c.args.number c.args.version session c.index-editions-session.result
    pinned.found pinned.same c.in-Some.edition (sym named) carried.before carried.after c.if-version-pinned.false
    carried.binds carried.binds_after
    ∙ ap (λ (one : SessionRow). told (Ok one)) (sym carried.is)

pub returns-clause-stands : goal.returns-clause-stands
returns-clause-stands c =
    let good = own-session (rows_of c.args.tables.now) c.args.own.now c.requires.valid c.requires.own c.args.number
    c.in_ok-session.session.now c.sessions.ensures c.in_ok-session.ensures.stands in
    let within = rw c.as_slice-editions.ensures at c.in-Some.ensures.within in
    IsCarried-stands (session-carried c.requires.valid good within c.in_ok-carried_to.ensures)

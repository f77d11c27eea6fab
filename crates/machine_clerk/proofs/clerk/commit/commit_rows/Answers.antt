use Rattle.std.proofs.Common.{◌∙◌, Ok, ap, arith, length, refl, sym}
use Rattle.desk_words.specs.declared.rows.session.Stage.TheVariants.{Committed}
use Rattle.desk_words.specs.Tables.{published_of, rows_of}
use Rattle.machine_core.specs.Shelves.{bound_on}
use Rattle.machine_core.proofs.Rooms.{IsFullRoom-for}
use Rattle.machine_core.proofs.Stopping.{EndsWith-stopped}
use Rattle.machine_core.proofs.Widths.{confirmed-width, kit-width, named-kit, typed-width}
use Rattle.machine_clerk.proofs.Endings.{commit-recorded, commit-unended}
use Rattle.machine_clerk.proofs.clerk.commit.commit_rows.Goals as goal

pub state_of-requires : goal.state_of-requires
state_of-requires c =
    let published = published_of (rows_of c.args.tables.now) in
    let session = c.in_ok-session.session.now in
    let made = bound_on c.shelved-shelved.result.now in
    let bound = c.shelved-shelved.ensures.bound published c.in_ok-session.ensures.ready.held in
    typed-width published c.args.own.now.batches session made bound c.in_ok-session.ensures.good
    ∙ sym (confirmed-width published c.args.own.now.batches session made bound c.in_ok-session.ensures.good)

pub fixed_end-requires-clause-fits : goal.fixed_end-requires-clause-fits
fixed_end-requires-clause-fits c =
    let rows = rows_of c.args.tables.now in
    let session = c.in_ok-session.session.now in
    let made = bound_on c.shelved-shelved.result.now in
    let bound = c.shelved-shelved.ensures.bound (published_of rows) c.in_ok-session.ensures.ready.held in
    c.in_ok-state_of.ensures.fits made.kit
    (typed-width (published_of rows) c.args.own.now.batches session made bound c.in_ok-session.ensures.good
    ∙ kit-width rows session.edition made c.requires.ready.valid bound)

pub fixed_end-requires-clause-room : goal.fixed_end-requires-clause-room
fixed_end-requires-clause-room c =
    let rows = rows_of c.args.tables.now in
    let bound = c.shelved-shelved.ensures.bound (published_of rows) c.in_ok-session.ensures.ready.held in
    IsFullRoom-for c.in_ok-session.ensures.ready.room (named-kit rows c.in_ok-session.session.now.edition
    (bound_on c.shelved-shelved.result.now) c.requires.ready.valid bound).valid

pub returns-in_err-end-clause-answers : goal.returns-in_err-end-clause-answers
returns-in_err-end-clause-answers c =
    let published = published_of (rows_of c.args.tables.now) in
    let bound = c.shelved-shelved.ensures.bound published c.in_ok-session.ensures.ready.held in
    let answers = rw c.in_ok-state_of.ensures.state at c.in_err-end.ensures.answers in
    commit-unended published c.args.own.now c.args.number c.args.accept c.in_ok-session.session.now
    (bound_on c.shelved-shelved.result.now) c.in_err-end.field-0.0 c.from_residual-in_err-end.result
    c.in_ok-session.ensures.finds bound c.from_residual-in_err-end.ensures.1 answers

pub returns-in_err-row-clause-answers : goal.returns-in_err-row-clause-answers
returns-in_err-row-clause-answers c =
    let published = published_of (rows_of c.args.tables.now) in
    let bound = c.shelved-shelved.ensures.bound published c.in_ok-session.ensures.ready.held in
    let gives = rw c.in_ok-state_of.ensures.state at c.in_ok-end.ensures.answers in
    commit-recorded published c.args.own.now c.args.number c.args.accept c.in_ok-session.session.now
    (bound_on c.shelved-shelved.result.now) c.in_ok-end.end c.from_residual-in_err-row.result
    c.in_ok-session.ensures.finds bound gives (EndsWith-stopped _ _ c.in_err-row.field-0.0
    c.from_residual-in_err-row.result c.from_residual-in_err-row.ensures.1 c.in_err-row.ensures.finds)

pub bytes_in-requires : goal.bytes_in-requires
bytes_in-requires c =
    let rows = rows_of c.args.tables.now in
    let bound = c.shelved-shelved.ensures.bound (published_of rows) c.in_ok-session.ensures.ready.held in
    let named = named-kit rows c.in_ok-session.session.now.edition (bound_on c.shelved-shelved.result.now)
    c.requires.ready.valid bound in
    omega (arith, ap length c.as_slice.ensures, c.in_ok-row.ensures.whole, named.valid.narrow)

pub returns-in_err-within_bytes-clause-answers : goal.returns-in_err-within_bytes-clause-answers
returns-in_err-within_bytes-clause-answers c =
    let published = published_of (rows_of c.args.tables.now) in
    let bound = c.shelved-shelved.ensures.bound published c.in_ok-session.ensures.ready.held in
    let gives = rw c.in_ok-state_of.ensures.state at c.in_ok-end.ensures.answers in
    let bytes = rw (c.bytes_in.ensures.bytes, c.as_slice.ensures) at c.in_err-within_bytes.ensures.finds in
    commit-recorded published c.args.own.now c.args.number c.args.accept c.in_ok-session.session.now
    (bound_on c.shelved-shelved.result.now) c.in_ok-end.end c.from_residual-in_err-within_bytes.result
    c.in_ok-session.ensures.finds bound gives (rw c.in_ok-row.ensures.finds (EndsWith-stopped _ _
    c.in_err-within_bytes.field-0.0 c.from_residual-in_err-within_bytes.result
    c.from_residual-in_err-within_bytes.ensures.1 bytes))

pub returns-clause-answers : goal.returns-clause-answers
returns-clause-answers c =
    let published = published_of (rows_of c.args.tables.now) in
    let bound = c.shelved-shelved.ensures.bound published c.in_ok-session.ensures.ready.held in
    let gives = rw c.in_ok-state_of.ensures.state at c.in_ok-end.ensures.answers in
    let bytes = rw (c.bytes_in.ensures.bytes, c.as_slice.ensures) at c.in_ok-within_bytes.ensures.finds in
    commit-recorded published c.args.own.now c.args.number c.args.accept c.in_ok-session.session.now
    (bound_on c.shelved-shelved.result.now) c.in_ok-end.end
    (Ok (record c.in_ok-after.after { stage = Committed }, c.in_ok-row.row))
    c.in_ok-session.ensures.finds bound gives
    (rw (c.in_ok-row.ensures.finds, bytes, c.in_ok-after.ensures.copied) refl)

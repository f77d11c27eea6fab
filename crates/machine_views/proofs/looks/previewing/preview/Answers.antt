use Rattle.desk_words.specs.Tables.{published_of, rows_of}
use Rattle.machine_views.proofs.Keeping.{own-rows}
use Rattle.machine_views.proofs.Previewing.{confirm_row-first, confirm_row-stands, preview-gives, preview-stopped}
use Rattle.machine_views.proofs.looks.previewing.preview.Goals as goal

pub view_of-requires-clause-session : goal.view_of-requires-clause-session
view_of-requires-clause-session c =
    let rows = rows_of c.args.tables.now in
    let own = c.args.own.now in
    let finds = rw c.as_slice.ensures at c.in_ok-session.ensures.finds in
    confirm_row-stands (published_of rows) own c.args.number c.args.cells.now c.in_ok-session.session finds
    c.in_ok-session.ensures.counted (own-rows rows own c.requires.ready.valid c.requires.own)

pub returns-in_err-session-clause-view : goal.returns-in_err-session-clause-view
returns-in_err-session-clause-view c =
    let finds = rw c.as_slice.ensures at c.in_err-session.ensures.finds in
    preview-stopped (published_of (rows_of c.args.tables.now)) c.args.own.now c.args.number c.args.cells.now
    c.in_err-session.field-0.0 c.from_residual.result c.from_residual.ensures.1 finds

pub returns-clause-view : goal.returns-clause-view
returns-clause-view c =
    let finds = rw c.as_slice.ensures at c.in_ok-session.ensures.finds in
    preview-gives (published_of (rows_of c.args.tables.now)) c.args.own.now c.args.number c.args.cells.now
    c.in_ok-session.session finds c.in_ok-view_of.field-0 c.in_ok-view_of.ensures.view

pub returns-clause-first : goal.returns-clause-first
returns-clause-first c =
    let finds = rw c.as_slice.ensures at c.in_ok-session.ensures.finds in
    confirm_row-first (published_of (rows_of c.args.tables.now)) c.args.own.now c.args.number c.args.cells.now
    c.in_ok-session.session finds c.view_of.new.workplace.shelf c.in_ok-view_of.ensures.first

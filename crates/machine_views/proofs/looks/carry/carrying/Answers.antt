use Rattle.desk_words.specs.Tables.{published_of, rows_of}
use Rattle.machine_views.proofs.Carried.{carrying-given}
use Rattle.machine_views.proofs.Shown.{cells-apart, few-cells, view-cells, view_at-cells}
use Rattle.machine_views.proofs.looks.carry.carrying.Goals as goal

pub carried_between-requires-clause-few_before : goal.carried_between-requires-clause-few_before
carried_between-requires-clause-few_before c =
    let rows = rows_of c.args.tables.now in
    let shows = view_at-cells (published_of rows) c.args.own.now c.args.number c.in_ok-before.before
    c.in_ok-before.ensures.view in
    few-cells rows shows.0 c.in_ok-before.before c.requires.ready.valid shows.1

pub carried_between-requires-clause-few_after : goal.carried_between-requires-clause-few_after
carried_between-requires-clause-few_after c =
    let rows = rows_of c.args.tables.now in
    few-cells rows c.in_ok-moved.moved c.in_ok-after.after c.requires.ready.valid
    (view-cells (published_of rows) c.args.number c.in_ok-moved.moved c.in_ok-after.after c.in_ok-after.ensures.view)

pub carried_between-requires-clause-apart : goal.carried_between-requires-clause-apart
carried_between-requires-clause-apart c =
    let rows = rows_of c.args.tables.now in
    let shows = view_at-cells (published_of rows) c.args.own.now c.args.number c.in_ok-before.before
    c.in_ok-before.ensures.view in
    cells-apart rows shows.0 c.in_ok-before.before c.requires.ready.valid shows.1

pub returns-clause-carried : goal.returns-clause-carried
returns-clause-carried c =
    carrying-given (published_of (rows_of c.args.tables.now)) c.args.own.now c.args.number c.args.version
    c.in_ok-moved.moved c.in_ok-before.before c.in_ok-after.after c.in_ok-carried_between.field-0
    c.in_ok-moved.ensures.finds c.in_ok-before.ensures.view c.in_ok-after.ensures.view c.in_ok-carried_between.ensures

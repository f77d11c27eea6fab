use Rattle.std.proofs.Common.{◌∙◌, ◌∷◌, ◌++◌, ◌+◌, ◌<◌, [], ap, arith, length, map, sym, take}
use Rattle.machine_core.specs.Clerk.Batch.{placed, row_session}
use Rattle.machine_clerk.proofs.Placed.{placed-more}
use Rattle.machine_clerk.proofs.clerk.batch.row_sessions.Goals as goal

pub rows-preserved : goal.rows-preserved
rows-preserved c =
    let heading = c.args.heading.now in
    let rows = c.args.grid.now.rows in
    let place = c.args.first + c.rows.row in
    let session_of = row_session heading.edition heading.width c.args.batch heading.columns.now in
    let within : c.rows.row < length rows = omega (arith, c.rows-test.true, c.rows-row-end.ensures.rows) in
    let before = placed c.args.first (map session_of (take c.rows.row rows)) in
    c.in_ok-push.ensures.pushed
    ∙ ap (λ sessions. sessions ++ (place, c.in_ok-session.session) ∷ []) c.rows.invariant
    ∙ ap (λ session. before ++ (place, session) ∷ []) c.in_ok-session.ensures
    ∙ sym (placed-more session_of rows c.rows.row [] c.args.first within)

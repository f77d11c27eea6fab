use Rattle.std.proofs.Common.{◌-◌, ◌≤◌, arith, length, subst}
use Rattle.std.proofs.lemmas.Option.{slice_get_within}
use Rattle.std.proofs.lemmas.Result.{IfOk-weaker}
use Rattle.desk_words.specs.Tables.{published_of, rows_of}
use Rattle.machine_core.specs.Clerk.Confirm.{cells_confirmed}
use Rattle.machine_core.specs.Outcomes.{Finds}
use Rattle.machine_core.proofs.Widths.{confirmed-width, typed-width}
use Rattle.machine_clerk.proofs.FewTexts.{few-texts}
use Rattle.machine_clerk.proofs.clerk.confirm.confirm_row.Goals as goal

pub cells_confirmed-requires-clause-typed : goal.cells_confirmed-requires-clause-typed
cells_confirmed-requires-clause-typed c =
    let rows = rows_of c.args.tables.now in
    let named = c.attributes-attributes.ensures rows c.in_ok-session.ensures.ready in
    rw named.are (typed-width (published_of rows) c.args.own.now.batches c.in_ok-session.session.now
    named.bound
    named.is_bound c.in_ok-session.ensures.good)

pub cells_confirmed-requires-clause-confirmed : goal.cells_confirmed-requires-clause-confirmed
cells_confirmed-requires-clause-confirmed c =
    let rows = rows_of c.args.tables.now in
    let named = c.attributes-attributes.ensures rows c.in_ok-session.ensures.ready in
    rw named.are (confirmed-width (published_of rows) c.args.own.now.batches c.in_ok-session.session.now
    named.bound named.is_bound c.in_ok-session.ensures.good)

pub returns-clause-finds : goal.returns-clause-finds
returns-clause-finds c =
    let named = c.attributes-attributes.ensures (rows_of c.args.tables.now) c.in_ok-session.ensures.ready in
    rw (c.in_ok-session.ensures.finds, named.is_bound) (subst (λ words. Finds c.cells_confirmed.result (cells_confirmed
    words c.in_ok-session.session.now c.args.cells.now)) named.are c.cells_confirmed.ensures.finds)

pub returns-clause-within : goal.returns-clause-within
returns-clause-within c =
    let within : c.args.number ≤ length c.args.own.now.sessions = omega (
      arith,
      slice_get_within c.args.own.now.sessions (c.args.number - 1) c.in_ok-session.session.now
          c.in_ok-session.ensures.stands,
      c.in_ok-session.ensures.counted,
    ) in
    IfOk-weaker c.cells_confirmed.result _ _ (λ after whole. within) c.cells_confirmed.ensures.whole

pub returns-clause-few : goal.returns-clause-few
returns-clause-few c =
    let few = few-texts (rows_of c.args.tables.now) c.args.own.now.batches c.in_ok-session.session.now
    c.requires.ready.valid c.in_ok-session.ensures.good in
    IfOk-weaker c.cells_confirmed.result _ _ (λ after whole. omega (arith, few, whole)) c.cells_confirmed.ensures.whole

use Rattle.std.proofs.Common.{refl}
use Rattle.desk_words.specs.Tables.{published_of, rows_of}
use Rattle.machine_core.proofs.Stopping.{EndsWith-stopped}
use Rattle.machine_core.proofs.Widths.{confirmed-width}
use Rattle.machine_clerk.proofs.clerk.withdraw.withdraw_row.Goals as goal

pub confirmed_places-requires : goal.confirmed_places-requires
confirmed_places-requires c =
    let rows = rows_of c.args.tables.now in
    let named = c.attributes-attributes.ensures rows c.in_ok-session.ensures.ready in
    rw (c.as_slice.ensures, named.are) (confirmed-width (published_of rows) c.args.own.now.batches
    c.in_ok-session.session.now named.bound named.is_bound c.in_ok-session.ensures.good)

pub returns-in_err-places-clause-finds : goal.returns-in_err-places-clause-finds
returns-in_err-places-clause-finds c =
    let named = c.attributes-attributes.ensures (rows_of c.args.tables.now) c.in_ok-session.ensures.ready in
    let places = rw (c.as_slice.ensures, named.are) at c.in_err-places.ensures.finds in
    rw (c.in_ok-session.ensures.finds, named.is_bound) (EndsWith-stopped _ _ c.in_err-places.field-0.0
    c.from_residual-in_err-places.result c.from_residual-in_err-places.ensures.1 places)

pub returns-clause-finds : goal.returns-clause-finds
returns-clause-finds c =
    let named = c.attributes-attributes.ensures (rows_of c.args.tables.now) c.in_ok-session.ensures.ready in
    let places = rw (c.as_slice.ensures, named.are) at c.in_ok-places.ensures.finds in
    rw (c.in_ok-session.ensures.finds, named.is_bound, places, c.in_ok-without_flags.ensures, c.as_slice-2.ensures) refl

use Rattle.std.proofs.Common.{arith, rules}
use Rattle.desk_words.specs.Tables.{rows_of}
use Rattle.machine_core.proofs.Stopping.{EndsWith-stopped}
use Rattle.machine_clerk.proofs.clerk.batch.batch_deed.Goals as goal

pub returns-in_err-sheet-clause-finds : goal.returns-in_err-sheet-clause-finds
returns-in_err-sheet-clause-finds c =
    let named = c.attributes-attributes.ensures (rows_of c.args.tables.now) c.in_ok-place.ensures.ready in
    rw (c.in_ok-place.ensures.finds, named.is_bound) (EndsWith-stopped _ _ c.in_err-sheet.field-0.0
    c.from_residual-in_err-sheet.result c.from_residual-in_err-sheet.ensures.1 c.in_err-sheet.ensures.finds)

pub columns_of-requires : goal.columns_of-requires
columns_of-requires c =
    omega (arith, c.attributes-attributes.ensures (rows_of c.args.tables.now) c.in_ok-place.ensures.ready)

pub returns-in_err-columns-clause-finds : goal.returns-in_err-columns-clause-finds
returns-in_err-columns-clause-finds c =
    let named = c.attributes-attributes.ensures (rows_of c.args.tables.now) c.in_ok-place.ensures.ready in
    let columns = rw (named.are, c.as_slice.ensures) at c.in_err-columns.ensures.finds in
    rw (c.in_ok-place.ensures.finds, named.is_bound, c.in_ok-sheet.ensures.finds)
    (EndsWith-stopped _ _ c.in_err-columns.field-0.0
    c.from_residual-in_err-columns.result c.from_residual-in_err-columns.ensures.1 columns)

pub overflow_cast-heading : goal.overflow_cast-heading
overflow_cast-heading c =
    omega (arith, c.attributes-attributes.ensures (rows_of c.args.tables.now) c.in_ok-place.ensures.ready)

pub batch_rows-requires-clause-heading : goal.batch_rows-requires-clause-heading
batch_rows-requires-clause-heading c =
    let named = c.attributes-attributes.ensures (rows_of c.args.tables.now) c.in_ok-place.ensures.ready in
    record { whole = search rules; within = search rules; narrow = named.few }

pub returns-clause-finds : goal.returns-clause-finds
returns-clause-finds c =
    let named = c.attributes-attributes.ensures (rows_of c.args.tables.now) c.in_ok-place.ensures.ready in
    let columns = rw (named.are, c.as_slice.ensures) at c.in_ok-columns.ensures.finds in
    let rows = rw (c.as_slice-2.ensures, named.are) at c.batch_rows.ensures in
    rw (c.in_ok-place.ensures.finds, named.is_bound, c.in_ok-sheet.ensures.finds, columns) rows

use Rattle.std.proofs.Common.{arith, length}
use Rattle.std.specs.Prelude.{Ok}
use Rattle.desk_words.specs.declared.limit.Which.TheVariants as which
use Rattle.machine_core.specs.Limits.{within}
use Rattle.machine_core.proofs.Answering.{Answers-found}
use Rattle.machine_core.proofs.Tested.{within-ok}
use Rattle.machine_clerk.proofs.clerk.batch.batch_rows.Goals as goal

pub batch_of-requires-clause-few : goal.batch_of-requires-clause-few
batch_of-requires-clause-few c =
    let count = length c.args.grid.now.rows in
    let rows = rw (c.from.ensures, c.rows-count.ensures.rows) at c.in_ok-within.ensures.finds in
    omega (arith, within-ok which.BatchRows count tt (Answers-found (within which.BatchRows count) (Ok tt) rows))

pub returns : goal.returns
returns c =
    let rows = rw (c.from.ensures, c.rows-count.ensures.rows) at c.in_ok-within.ensures.finds in
    let active = rw (c.active.ensures, c.from-2.ensures, c.rows-count.ensures.rows) at c.in_ok-within-2.ensures.finds in
    let all = rw (c.sessions.ensures, c.from-3.ensures, c.rows-count.ensures.rows) at c.in_ok-within-3.ensures.finds in
    let batches = rw c.batches.ensures at c.in_ok-within-4.ensures.finds in
    rw (rows, active, all, batches) c.batch_of.ensures

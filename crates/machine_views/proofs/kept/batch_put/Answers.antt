use Rattle.std.proofs.Common.{◌≡◌, ◌∙◌, ap, arith, length, subst, sym}
use Rattle.std.proofs.lemmas.Option.{same_Some}
use Rattle.desk_words.specs.declared.rows.batch.BatchRow.{BatchRow}
use Rattle.desk_words.specs.Tables.{published_of, rows_of}
use Rattle.machine_views.specs.Counts.{AreAtMost}
use Rattle.machine_views.proofs.Keeping.{batch-count, batch-given, batch-short, batch-stand}
use Rattle.machine_views.proofs.kept.batch_put.Goals as goal

pub put_verdicts-requires-clause-sessions : goal.put_verdicts-requires-clause-sessions
put_verdicts-requires-clause-sessions c =
    rw c.as_slice-sessions.ensures (batch-stand (published_of (rows_of c.args.tables.now)) c.args.own.now c.args.deed.now
    c.requires.sound c.requires.batch)

pub put_verdicts-requires-clause-few : goal.put_verdicts-requires-clause-few
put_verdicts-requires-clause-few c =
    let published = published_of (rows_of c.args.tables.now) in
    let count = batch-count published c.args.own.now c.args.deed.now c.requires.sound c.requires.batch in
    let short = batch-short published c.args.own.now c.args.deed.now c.requires.sound c.requires.batch in
    omega (arith, ap length c.as_slice-sessions.ensures, count, short)

pub batched-requires-clause-most : goal.batched-requires-clause-most
batched-requires-clause-most c =
    let row : BatchRow = c.put_batch.result.now in
    let same : c.requires.batch.row ≡ row =
    same_Some c.requires.batch.row row (sym c.requires.batch.is ∙ c.put_batch.ensures) in
    let count : length c.as_slice-sessions.result.now ≡ row.count =
    ap length c.as_slice-sessions.ensures
    ∙ batch-count (published_of (rows_of c.args.tables.now)) c.args.own.now c.args.deed.now c.requires.sound
    c.requires.batch
    ∙ ap (λ (one : BatchRow). one.count) same in
    subst (λ most. AreAtMost most c.in_ok-verdicts.verdicts) count c.in_ok-verdicts.ensures.few

pub batched-requires-clause-word : goal.batched-requires-clause-word
batched-requires-clause-word c =
    let row : BatchRow = c.put_batch.result.now in
    let same : c.requires.batch.row ≡ row =
    same_Some c.requires.batch.row row (sym c.requires.batch.is ∙ c.put_batch.ensures) in
    let short = batch-short (published_of (rows_of c.args.tables.now)) c.args.own.now c.args.deed.now c.requires.sound
    c.requires.batch in
    omega (arith, short, ap (λ (one : BatchRow). one.count) same)

pub returns-clause-batch : goal.returns-clause-batch
returns-clause-batch c =
    let published = published_of (rows_of c.args.tables.now) in
    let counted = rw c.as_slice-sessions.ensures at c.in_ok-verdicts.ensures.verdicts in
    rw c.batched.ensures (batch-given published c.args.own.now c.args.deed.now c.requires.sound c.requires.batch
    c.put_batch.result.now c.in_ok-verdicts.verdicts c.put_batch.ensures counted)

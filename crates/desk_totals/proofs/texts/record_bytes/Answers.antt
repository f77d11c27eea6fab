use Rattle.std.proofs.Common.{arith, length-take}
use Rattle.desk_words.specs.declared.rows.record.RecordRow.{RecordRow}
use Rattle.desk_totals.proofs.Bytes.{HaveBytes-more, bytes_in-few}
use Rattle.desk_totals.proofs.texts.record_bytes.Goals as goal

pub overflow_add-bytes : goal.overflow_add-bytes
overflow_add-bytes c =
    omega (
      arith,
      c.records.invariant.few,
      length-take c.records.row-index c.args.records.now,
      bytes_in-few c.as_slice.result.now c.bytes_in-bytes.ensures.texts,
    )

pub records-preserved : goal.records-preserved
records-preserved c =
    rw c.bytes_in-bytes.ensures.bytes (HaveBytes-more (λ (one : RecordRow). one.texts) c.args.records.now
    c.records.row-index c.row-item.result c.records.bytes c.as_slice.result.now c.records-test.true
    c.row-item.is c.as_slice.ensures c.bytes_in-bytes.ensures.texts c.records.invariant)

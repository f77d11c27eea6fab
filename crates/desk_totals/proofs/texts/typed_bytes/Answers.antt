use Rattle.std.proofs.Common.{arith, length-take}
use Rattle.desk_words.specs.declared.rows.session.SessionRow.{SessionRow}
use Rattle.desk_totals.proofs.Bytes.{HaveBytes-more, bytes_in-few}
use Rattle.desk_totals.proofs.texts.typed_bytes.Goals as goal

pub overflow_add-bytes : goal.overflow_add-bytes
overflow_add-bytes c =
    omega (
      arith,
      c.sessions.invariant.few,
      length-take c.sessions.session-index c.args.sessions.now,
      bytes_in-few c.as_slice.result.now c.bytes_in-bytes.ensures.texts,
    )

pub sessions-preserved : goal.sessions-preserved
sessions-preserved c =
    rw c.bytes_in-bytes.ensures.bytes (HaveBytes-more (λ (one : SessionRow). one.typed) c.args.sessions.now
    c.sessions.session-index c.session-item.result c.sessions.bytes c.as_slice.result.now c.sessions-test.true
    c.session-item.is c.as_slice.ensures c.bytes_in-bytes.ensures.texts c.sessions.invariant)

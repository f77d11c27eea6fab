use Rattle.std.proofs.Common.{arith}
use Rattle.desk_totals.proofs.Bytes.{record_bytes-le, typed_bytes-le}
use Rattle.desk_totals.proofs.totals.Totals.of.Goals as goal

pub overflow_add-result : goal.overflow_add-result
overflow_add-result c =
    omega (
      arith,
      typed_bytes-le c.args.sessions.now c.typed_bytes.ensures.texts,
      record_bytes-le c.args.records.now c.record_bytes.ensures.texts,
    )

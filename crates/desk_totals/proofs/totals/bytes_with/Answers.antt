use Rattle.std.proofs.Common.{arith}
use Rattle.desk_totals.proofs.Bytes.{bytes_in-few}
use Rattle.desk_totals.proofs.totals.bytes_with.Goals as goal

pub overflow_add-result : goal.overflow_add-result
overflow_add-result c = omega (arith, bytes_in-few c.as_slice-2.result.now c.bytes_in.ensures.texts)

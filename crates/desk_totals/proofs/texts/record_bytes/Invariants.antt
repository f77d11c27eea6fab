use Rattle.std.proofs.Common.{take}
use Rattle.desk_totals.proofs.Bytes.{HaveBytes}
use Rattle.desk_totals.proofs.texts.record_bytes.Given as goal

-- the bytes so far
abbrev pub invariant-records : goal.invariant-records
invariant-records l = HaveBytes (λ row. row.texts) (take l.row-index l.records) l.bytes

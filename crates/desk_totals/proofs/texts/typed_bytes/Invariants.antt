use Rattle.std.proofs.Common.{take}
use Rattle.desk_totals.proofs.Bytes.{HaveBytes}
use Rattle.desk_totals.proofs.texts.typed_bytes.Given as goal

-- the bytes so far
abbrev pub invariant-sessions : goal.invariant-sessions
invariant-sessions l = HaveBytes (λ session. session.typed) (take l.session-index l.sessions) l.bytes

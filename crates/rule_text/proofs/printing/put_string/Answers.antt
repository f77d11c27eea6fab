use Rattle.std.proofs.Common.{◌∷◌, take}
use Rattle.rule_text.specs.Printing.{doubled}
use Rattle.rule_text.proofs.Printed.{doubled-take, grown}
use Rattle.rule_text.proofs.printing.put_string.Goals as goal

pub bytes-preserved : goal.bytes-preserved
bytes-preserved c =
    rw (doubled-take c.as_bytes-byte-items.result.now c.bytes.byte-index 0 c.bytes-test.true)
    (grown _ _ _ (34 ∷ doubled (take c.bytes.byte-index c.as_bytes-byte-items.result.now))
    _ c.in_ok-put_doubled.ensures c.bytes.invariant)

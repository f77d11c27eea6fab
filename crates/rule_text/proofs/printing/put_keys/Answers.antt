use Rattle.rule_text.specs.Printing.{pair_text}
use Rattle.rule_text.proofs.Printed.{listed-take, grown}
use Rattle.rule_text.proofs.printing.put_keys.Goals as goal

pub keys-preserved : goal.keys-preserved
keys-preserved c =
    rw (listed-take (pair_text c.args.schema.now) c.args.keys.now c.keys.place c.index-keys-place.result
    c.keys-test.true c.index-keys-place.is)
    (grown _ _ _ _ _ c.in_ok-put_pair.ensures (grown _ _ _ _ _ c.in_ok-put_separator.ensures c.keys.invariant))

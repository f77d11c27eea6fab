use Rattle.rule_text.specs.Printing.{cond_text}
use Rattle.rule_text.proofs.Printed.{listed-take, grown}
use Rattle.rule_text.proofs.printing.put_asked.Goals as goal

pub conds-preserved : goal.conds-preserved
conds-preserved c =
    rw (listed-take (cond_text c.args.schema.now) c.args.conds.now c.conds.place c.index-conds-place.result
    c.conds-test.true c.index-conds-place.is)
    (grown _ _ _ _ _ c.in_ok-put_cond.ensures (grown _ _ _ _ _ c.in_ok-put_separator.ensures c.conds.invariant))

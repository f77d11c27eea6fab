use Rattle.rule_text.specs.Printing.{string_text}
use Rattle.rule_text.proofs.Printed.{listed-take, grown}
use Rattle.rule_text.proofs.printing.put_strings.Goals as goal

pub texts-preserved : goal.texts-preserved
texts-preserved c =
    rw (listed-take string_text c.args.texts.now c.texts.place c.index-texts-place.result c.texts-test.true
    c.index-texts-place.is)
    (grown _ _ _ _ _ c.in_ok-put_string.ensures (grown _ _ _ _ _ c.in_ok-put_separator.ensures c.texts.invariant))

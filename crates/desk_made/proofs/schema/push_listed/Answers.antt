use Rattle.rule_text.proofs.Printed.{listed-take, grown}
use Rattle.desk_made.specs.Schema.{quoted}
use Rattle.desk_made.proofs.schema.push_listed.Goals as goal

pub words-preserved : goal.words-preserved
words-preserved c =
    rw (listed-take quoted c.args.words.now c.words.place c.index-words-place.result c.words-test.true
    c.index-words-place.is)
    (grown _ _ _ _ _ c.in_ok-push_quoted.ensures (grown _ _ _ _ _ c.in_ok-push_separator.ensures c.words.invariant))

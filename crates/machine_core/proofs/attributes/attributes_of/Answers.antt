use Rattle.std.proofs.Common.{◌∙◌}
use Rattle.machine_core.specs.Tests.{attribute_of}
use Rattle.machine_core.proofs.Joined.{joined-none, joined-step}
use Rattle.machine_core.proofs.attributes.attributes_of.Goals as goal

pub words-init : goal.words-init
words-init c =
    joined-none (attribute_of c.args.attributes.now) c.args.words.now c.new-places.result c.new-places.ensures

pub words-preserved : goal.words-preserved
words-preserved c =
    c.words.invariant ∙ joined-step (attribute_of c.args.attributes.now) c.args.words.now c.words.word-index
    c.word-item.result c.words.places c.push.new.self c.in_ok-place.place c.words-test.true c.word-item.is
    c.in_ok-place.ensures.finds c.in_ok-push.ensures.pushed

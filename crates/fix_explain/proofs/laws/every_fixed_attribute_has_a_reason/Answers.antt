use Rattle.fix_explain.proofs.Finding.{IsReason-exists}
use Rattle.fix_explain.proofs.laws.every_fixed_attribute_has_a_reason.Goals as goal

pub returns : goal.returns
returns c = IsReason-exists c.args.kit.now c.args.attribute c.requires.valid c.args.state.now c.args.run.now
    c.requires.fits c.requires.run c.requires.fixed

use Rattle.machine_laws.proofs.Explanations.{some-explanation}
use Rattle.machine_laws.proofs.questions.every_fixed_attribute_has_an_explanation.Goals as goal

pub returns : goal.returns
returns c = some-explanation c.args.kit.now c.args.state.now c.args.run.now c.args.attribute c.requires.valid
    c.requires.fits
    c.requires.run c.requires.fixed

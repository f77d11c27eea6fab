use Rattle.machine_laws.proofs.Suggesting.{some-suggestion}
use Rattle.machine_laws.proofs.questions.every_state_has_a_suggestion.Goals as goal

pub returns : goal.returns
returns c =
    some-suggestion c.args.kit.now c.args.state.now c.args.regions.now c.requires.valid c.requires.fits

use Rattle.fix_model.proofs.Lengths.{IsMaximalRun-exists}
use Rattle.fix_model.proofs.laws.runs_go_on.Goals as goal

pub returns : goal.returns
returns c = IsMaximalRun-exists c.args.kit.now c.requires.valid c.args.state.now c.args.run.now c.requires.fits
    c.requires.run

use Rattle.fix_model.proofs.Lengths.{IsCovered-end_of}
use Rattle.fix_model.proofs.laws.covered_values_stay.Goals as goal

pub returns-clause-covered : goal.returns-clause-covered
returns-clause-covered c = (IsCovered-end_of c.args.kit.now c.args.state.now c.args.run.now c.args.attribute
    c.requires.run c.requires.covered).0

pub returns-clause-value : goal.returns-clause-value
returns-clause-value c = (IsCovered-end_of c.args.kit.now c.args.state.now c.args.run.now c.args.attribute
    c.requires.run c.requires.covered).1

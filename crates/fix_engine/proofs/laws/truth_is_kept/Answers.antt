use Rattle.fix_engine.proofs.Truth.{EndAlike-true, RecordAgrees-end_of, no_dissent}
use Rattle.fix_engine.proofs.laws.truth_is_kept.Goals as goal

pub returns-clause-texts : goal.returns-clause-texts
returns-clause-texts c = RecordAgrees-end_of c.args.kit.now c.requires.valid c.args.texts.now c.requires.obeys
    c.args.state.now c.args.run.now c.requires.fits c.requires.run.0 c.requires.agrees

pub returns-clause-unique : goal.returns-clause-unique
returns-clause-unique c = λ other maximal. EndAlike-true c.args.kit.now c.requires.valid c.args.texts.now
    c.requires.obeys c.args.state.now c.args.run.now other c.requires.fits c.requires.agrees c.requires.run maximal

pub returns-clause-undisputed : goal.returns-clause-undisputed
returns-clause-undisputed c = λ step.
    no_dissent c.args.kit.now c.requires.valid c.args.texts.now c.requires.obeys _ step
    (RecordAgrees-end_of c.args.kit.now c.requires.valid c.args.texts.now c.requires.obeys c.args.state.now
    c.args.run.now c.requires.fits c.requires.run.0 c.requires.agrees)

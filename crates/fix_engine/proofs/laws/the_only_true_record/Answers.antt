use Rattle.fix_engine.proofs.Truth.{Obeys-own, RecordAgrees-own, only_record}
use Rattle.fix_engine.proofs.laws.the_only_true_record.Goals as goal

pub returns-clause-agrees : goal.returns-clause-agrees
returns-clause-agrees c = RecordAgrees-own c.args.kit.now c.requires.valid c.args.state.now c.requires.fits
    c.args.first.now c.requires.fix.is_first.holds.0

pub returns-clause-obeys : goal.returns-clause-obeys
returns-clause-obeys c = Obeys-own c.args.kit.now c.requires.valid c.args.state.now c.requires.fits c.args.first.now
    c.requires.fix

pub returns-clause-only : goal.returns-clause-only
returns-clause-only c = only_record c.args.kit.now c.requires.valid c.args.state.now c.requires.fits c.args.first.now
    c.requires.fix

use Rattle.fix_engine.proofs.Truth.{IsAnswer-fix, RecordAgrees-first}
use Rattle.fix_engine.proofs.laws.truth_has_a_fix.Goals as goal

pub returns-clause-fix : goal.returns-clause-fix
returns-clause-fix c = IsAnswer-fix c.args.kit.now c.requires.valid c.args.texts.now c.requires.obeys c.args.state.now
    c.args.first.now c.args.second.now c.args.verdict c.requires.fits c.requires.agrees c.requires.answer

pub returns-clause-texts : goal.returns-clause-texts
returns-clause-texts c = RecordAgrees-first c.args.kit.now c.requires.valid c.args.texts.now c.requires.obeys
    c.args.state.now c.args.first.now c.args.second.now c.args.verdict c.requires.fits c.requires.agrees
    c.requires.answer

use Rattle.fix_explain.specs.Marks.{IsWanted}
use Rattle.fix_explain.proofs.Enough.{Fixes-narrow, Narrows-wanted, value_at-narrow}
use Rattle.fix_explain.proofs.Narrows.{Narrows}
use Rattle.fix_explain.proofs.laws.uses_are_enough.Goals as goal
use Rattle.fix_explain.proofs.laws.uses_are_enough.Goals.{Start}

-- the state in which the uses alone are confirmed is narrower
narrows : (c : Start) → Narrows c.args.kit.now (IsWanted c.args.kit.now c.args.attribute c.args.reason.now)
    c.args.state.now c.args.narrow.now
narrows c = Narrows-wanted c.args.kit.now c.requires.valid c.args.state.now c.args.run.now c.args.attribute
    c.args.reason.now c.requires.fits c.requires.unfixed c.requires.reason c.args.narrow.now c.requires.narrow_fits
    c.args.uses.now c.requires.uses c.requires.confirms

pub returns-clause-fixes : goal.returns-clause-fixes
returns-clause-fixes c = Fixes-narrow c.args.kit.now c.requires.valid c.args.state.now c.args.run.now c.args.attribute
    c.args.reason.now c.requires.fits c.requires.unfixed c.requires.reason c.args.narrow.now c.requires.narrow_fits
    (narrows c)

pub returns-clause-value : goal.returns-clause-value
returns-clause-value c = value_at-narrow c.args.kit.now c.requires.valid c.args.state.now c.args.run.now
    c.args.attribute c.args.reason.now c.requires.fits c.requires.unfixed c.requires.reason c.args.narrow.now
    c.requires.narrow_fits (narrows c) c.requires.run

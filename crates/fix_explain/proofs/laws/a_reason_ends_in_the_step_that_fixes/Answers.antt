use Rattle.std.proofs.Common.{◌∙◌}
use Rattle.fix_explain.proofs.Members.{cell_at-reason, reason-last}
use Rattle.fix_explain.proofs.laws.a_reason_ends_in_the_step_that_fixes.Goals as goal

pub returns-clause-last : goal.returns-clause-last
returns-clause-last c = reason-last c.args.kit.now c.requires.valid c.args.state.now c.args.run.now c.args.attribute
    c.requires.fits c.requires.run c.args.reason.now c.args.step c.requires.unfixed c.requires.reason c.requires.step

pub returns-clause-cell : goal.returns-clause-cell
returns-clause-cell c = cell_at-reason c.args.kit.now c.requires.valid c.args.state.now c.args.run.now
    c.args.attribute c.requires.fits c.requires.run c.args.reason.now c.requires.unfixed c.requires.reason
    ∙ c.requires.step

use Rattle.std.proofs.Common.{◌∙◌}
use Rattle.fix_engine.proofs.first_run.least.Goals as goal

pub restore-requires : goal.restore-requires
restore-requires g c = c.begin.ensures.begun.even

pub returns-clause-state : goal.returns-clause-state
returns-clause-state g c = c.restore.ensures ∙ c.begin.ensures.begun.saved

use Rattle.std.proofs.Common.{◌∙◌}
use Rattle.case_json.proofs.records.state.Goals as goal

-- there are as many typed texts as attributes
pub returns-clause-fits : goal.returns-clause-fits
returns-clause-fits c kit named = c.in_ok-new.ensures.fits kit (c.in_ok-typed.ensures.full ∙ named)

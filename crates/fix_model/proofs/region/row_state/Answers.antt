use Rattle.std.proofs.Common.{◌∙◌, sym}
use Rattle.fix_model.proofs.region.row_state.Goals as goal

pub returns-clause-fits : goal.returns-clause-fits
returns-clause-fits c = λ kit wide. c.in_ok-state.ensures.fits kit (c.in_ok-typed.ensures.whole ∙ sym wide)

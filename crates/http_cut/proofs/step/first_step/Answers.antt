use Rattle.std.proofs.Common.{arith, inl, refl}
use Rattle.http_cut.proofs.step.first_step.Goals as goal

pub returns-in-NeedMore : goal.returns-in-NeedMore
returns-in-NeedMore c = (omega arith, inl (c.in-NeedMore.ensures, refl))

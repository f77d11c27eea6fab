use Rattle.std.proofs.Common.{◌≡◌, Err, ap}
use Rattle.keeper_core.specs.declared.keeper.KeepFail.TheVariants.{Failed}
use Rattle.keeper_sqlite.proofs.holding.Holding.load.Goals as goal

pub returns-in-Err-clause-fails : goal.returns-in-Err-clause-fails
returns-in-Err-clause-fails g c failed clean =
    let is : c.in-Err.fail ≡ Failed = let e = failed in cc in
    rw (← c.self.view_is) (c.in-Err.ensures.fails (ap Err is) clean)

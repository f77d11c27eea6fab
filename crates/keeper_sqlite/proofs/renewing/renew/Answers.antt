use Rattle.keeper_sqlite.proofs.Failing.{renew_first, renew_old}
use Rattle.keeper_sqlite.proofs.renewing.renew.Goals as goal

pub returns-in-Blank-clause-fails : goal.returns-in-Blank-clause-fails
returns-in-Blank-clause-fails g c failed clean = renew_first (c.put_first.ensures.fails failed clean)

pub returns-in-Old-clause-fails : goal.returns-in-Old-clause-fails
returns-in-Old-clause-fails g c failed clean = renew_old (c.migrate.ensures.fails failed clean)

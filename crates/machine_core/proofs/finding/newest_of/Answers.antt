use Rattle.machine_core.proofs.Newest.{newest-found}
use Rattle.machine_core.proofs.finding.newest_of.Goals as goal

pub returns-clause-place : goal.returns-clause-place
returns-clause-place g c =
    newest-found g.T.Versioned.name_of g.T.Versioned.version_of c.args.rows.now c.args.name.now c.requires
    c.last_named.result c.last_named.ensures.last

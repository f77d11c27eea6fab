use Rattle.machine_views.proofs.Replying.{told-ends}
use Rattle.machine_views.proofs.looks.replied.Goals as goal

pub returns-clause-told : goal.returns-clause-told
returns-clause-told g c = told-ends _ c.args.found c.map.result c.map.ensures.cases

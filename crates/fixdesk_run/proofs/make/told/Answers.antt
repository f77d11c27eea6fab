use Rattle.fixdesk_run.proofs.Summaries.{told_of}
use Rattle.fixdesk_run.proofs.make.told.Goals as goal

pub returns : goal.returns
returns g c = told_of c.args.sessions (g.M.Machine.rows c.args.machine.now) c.weigh-weighed.result c.told_by-text.result
    c.weigh-weighed.ensures.weighed c.weigh-weighed.ensures.settleable c.told_by-text.ensures

use Rattle.fixdesk_run.proofs.Reports.{reported}
use Rattle.fixdesk_run.proofs.report.report_of.Goals as goal

pub returns : goal.returns
returns g c = reported (g.M.Machine.rows c.args.machine.now) c.weigh-weighed.result c.reported-text.result
    c.weigh-weighed.ensures.weighed c.reported-text.ensures

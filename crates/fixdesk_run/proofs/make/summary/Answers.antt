use Rattle.fixdesk_run.proofs.Summaries.{summarized}
use Rattle.fixdesk_run.proofs.make.summary.Goals as goal

pub returns : goal.returns
returns g c = summarized c.args.sessions c.args.start (g.M.Machine.rows c.in_ok-machine.machine) c.told.result
    c.in_ok-machine.ensures c.told.ensures

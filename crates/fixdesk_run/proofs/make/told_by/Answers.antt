use Rattle.std.proofs.Common.{arith}
use Rattle.fixdesk_run.proofs.Summaries.{tells_report}
use Rattle.fixdesk_run.proofs.make.told_by.Goals as goal

pub returns-in-Report : goal.returns-in-Report
returns-in-Report c = tells_report c.args.sessions c.args.weighed.now c.in-Report.sheet c.summary_of.result
    c.in-Report.is (omega (arith, c.if-weighed-from.true, c.from.ensures)) c.summary_of.ensures

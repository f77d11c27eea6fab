use Rattle.fixdesk_run.proofs.Reports.{tells_reply}
use Rattle.fixdesk_run.proofs.report.reported.Goals as goal

pub returns-in-Report : goal.returns-in-Report
returns-in-Report c = tells_reply c.args.reply.now c.in-Report.sheet c.report_text.result c.in-Report.is
    c.report_text.ensures

use Rattle.fixdesk_run.proofs.OneSummary.{one_summary}
use Rattle.fixdesk_run.proofs.laws.one_summary.Goals as goal

pub returns : goal.returns
returns c = one_summary c.args.sessions c.args.start c.args.text.now c.args.other.now c.requires.summary c.requires.also

use Rattle.std.proofs.Common.{append_assoc, rules}
use Rattle.clean_run.proofs.summary.summary_line.Goals as goal

pub returns : goal.returns
returns c = simp append_assoc (search rules)

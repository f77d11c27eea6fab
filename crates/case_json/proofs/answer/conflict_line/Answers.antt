use Rattle.std.proofs.Common.{rules}
use Rattle.case_json.specs.Answer.{conflict_line, conflict_shown}
use Rattle.case_json.proofs.answer.conflict_line.Goals as goal

pub returns : goal.returns
unfolding conflict_line
returns c = search (rules, c.line_of.ensures (conflict_shown c.args.first.now c.args.second.now))

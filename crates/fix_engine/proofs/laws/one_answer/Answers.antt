use Rattle.fix_engine.proofs.Once.{IsAnswer-unique}
use Rattle.fix_engine.proofs.laws.one_answer.Goals as goal

pub returns : goal.returns
returns c =
    let (first, second, verdict) = IsAnswer-unique c.args.kit.now c.args.state.now c.args.verdict c.args.other
    c.args.first.now c.args.second.now c.args.other_first.now c.args.other_second.now c.requires.answer
    c.requires.other in
    record { first = first; second = second; verdict = verdict }

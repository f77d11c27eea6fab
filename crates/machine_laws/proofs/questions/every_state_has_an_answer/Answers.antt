use Rattle.machine_laws.proofs.Answering.{some-answer}
use Rattle.machine_laws.proofs.questions.every_state_has_an_answer.Goals as goal

pub returns : goal.returns
returns c =
    let answer = some-answer c.args.kit.now c.args.state.now c.requires.valid c.requires.fits in
    (answer.0.first, answer.0.second, answer.0.verdict, answer.1)

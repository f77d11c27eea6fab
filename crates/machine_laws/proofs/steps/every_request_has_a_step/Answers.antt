use Rattle.desk_words.specs.Tables.{rows_of}
use Rattle.machine_laws.proofs.EveryStep.{some-step}
use Rattle.machine_laws.proofs.steps.every_request_has_a_step.Goals as goal

pub returns : goal.returns
returns c = some-step (rows_of c.args.tables.now) c.args.command.now c.requires.valid c.requires.numbered

use Rattle.desk_words.specs.Tables.{rows_of}
use Rattle.machine_laws.proofs.Accepted.{step-valid}
use Rattle.machine_laws.proofs.validity.tables_stay_valid.Goals as goal

pub returns-clause-fit : goal.returns-clause-fit
returns-clause-fit c = λ answer changes step. (step-valid (rows_of c.args.tables.now) c.args.command.now answer changes
    c.requires.valid c.requires.numbered step).0

pub returns-clause-valid : goal.returns-clause-valid
returns-clause-valid c = λ answer changes step.
    (step-valid (rows_of c.args.tables.now) c.args.command.now answer changes
    c.requires.valid c.requires.numbered step).1

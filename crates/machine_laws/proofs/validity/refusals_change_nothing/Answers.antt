use Rattle.desk_words.specs.Tables.{rows_of}
use Rattle.machine_laws.proofs.Unchanged.{refused-unchanged}
use Rattle.machine_laws.proofs.validity.refusals_change_nothing.Goals as goal

pub returns : goal.returns
returns c = λ refusal changes step. refused-unchanged (rows_of c.args.tables.now) c.args.command.now refusal changes
    step

use Rattle.desk_words.specs.Tables.{rows_of}
use Rattle.machine_laws.proofs.Refusing.{step-why}
use Rattle.machine_laws.proofs.causes.refusals_have_their_causes.Goals as goal

pub returns : goal.returns
returns c = λ refusal changes step. step-why (rows_of c.args.tables.now) c.args.command.now refusal changes c.requires
    step

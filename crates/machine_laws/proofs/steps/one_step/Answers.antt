use Rattle.std.proofs.Common.{◌∙◌, ap, sym}
use Rattle.desk_words.specs.Tables.{rows_of}
use Rattle.machine_core.specs.Machine.{answered, machine}
use Rattle.machine_core.proofs.Chains.{Gives-unique}
use Rattle.machine_laws.proofs.steps.one_step.Goals as goal

pub returns : goal.returns
returns c = λ answer other changes others step step_too.
    let same = Gives-unique (machine (rows_of c.args.tables.now) c.args.command.now) step.outcome step_too.outcome
    step.gives step_too.gives in
    let pair = step.answers ∙ ap answered same ∙ sym step_too.answers in
    (ap (λ both. both.0) pair, ap (λ both. both.1) pair)

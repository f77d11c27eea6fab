use Rattle.desk_words.specs.declared.command.Command.TheVariants.{Desk, Look}
use Rattle.desk_words.specs.Tables.{rows_of}
use Rattle.machine_laws.proofs.Unchanged.{step-unchanged}
use Rattle.machine_laws.proofs.Writes.{desk-unchanged, look-unchanged}
use Rattle.machine_laws.proofs.validity.looks_change_nothing.Goals as goal

pub returns-clause-look : goal.returns-clause-look
returns-clause-look c = λ answer changes step. step-unchanged (rows_of c.args.tables.now)
    (Look c.args.name.now c.args.look.now) answer changes
    (look-unchanged (rows_of c.args.tables.now) c.args.name.now c.args.look.now) step

pub returns-clause-desk : goal.returns-clause-desk
returns-clause-desk c = λ answer changes step. step-unchanged (rows_of c.args.tables.now) (Desk c.args.at_desk.now)
    answer changes (desk-unchanged (rows_of c.args.tables.now) c.args.at_desk.now) step

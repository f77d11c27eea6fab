use Rattle.desk_words.specs.Tables.{rows_of}
use Rattle.machine_laws.proofs.Isolating.{write-alike}
use Rattle.machine_laws.proofs.isolation.own_writes_leave_tables_alike.Goals as goal

pub returns : goal.returns
returns c = λ answer answer_too changes others step step_too. write-alike c.args.name.now (rows_of c.args.tables.now)
    (rows_of c.args.other.now) c.args.ticket.now c.args.work.now answer answer_too changes others c.requires.valid
    c.requires.valid_too c.requires.alike step step_too

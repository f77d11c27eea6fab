use Rattle.desk_words.specs.Tables.{rows_of}
use Rattle.machine_laws.proofs.Listed.{accepted-alone}
use Rattle.machine_laws.proofs.repeats.accepted_writes_alone_leave_the_tables.Goals as goal

pub returns-clause-answered : goal.returns-clause-answered
returns-clause-answered c = λ events steps. (accepted-alone (rows_of c.args.tables.now) events steps).0

pub returns-clause-tables : goal.returns-clause-tables
returns-clause-tables c = λ events steps. (accepted-alone (rows_of c.args.tables.now) events steps).1

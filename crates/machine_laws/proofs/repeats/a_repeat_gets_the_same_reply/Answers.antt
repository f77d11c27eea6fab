use Rattle.desk_words.specs.Tables.{rows_of}
use Rattle.machine_laws.proofs.Listed.{repeat-listed}
use Rattle.machine_laws.proofs.repeats.a_repeat_gets_the_same_reply.Goals as goal

pub returns-clause-reply : goal.returns-clause-reply
returns-clause-reply c = λ caller event again between asked_it accepted none same steps. (repeat-listed
    (rows_of c.args.tables.now) caller event again between c.requires asked_it accepted none same steps).0

pub returns-clause-unchanged : goal.returns-clause-unchanged
returns-clause-unchanged c = λ caller event again between asked_it accepted none same steps. (repeat-listed
    (rows_of c.args.tables.now) caller event again between c.requires asked_it accepted none same steps).1

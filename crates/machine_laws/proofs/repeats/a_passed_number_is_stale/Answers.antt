use Rattle.desk_words.specs.Tables.{rows_of}
use Rattle.machine_laws.proofs.Listed.{stale-listed}
use Rattle.machine_laws.proofs.repeats.a_passed_number_is_stale.Goals as goal

pub returns : goal.returns
returns c = λ caller event one again earlier later asked_it accepted write same steps. stale-listed
    (rows_of c.args.tables.now) caller event one again earlier later c.requires asked_it accepted write same steps
